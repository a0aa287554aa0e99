-- The frames of a thread, the innermost last in the machine and first in a thread.
use Rattle.std.proofs.Common.{◌≡◌, ℕ, zero, suc, ◌-◌, ◌≤◌, ◌<◌, arith, List, [], ◌∷◌, ◌++◌, Some, None, Option, refl, sym, ap, ◌∙◌, length, take, map, reverse, slice_get, slice_set, slice_index_or, subst}
use Rattle.std.specs.Prelude.{vec_capacity}
use Rattle.std.proofs.lemmas.List.{reverse-append}
use Rattle.c_meaning.specs.Tree.{Function, Stmts}
use Rattle.c_meaning.specs.Values.{Env}
use Rattle.c_meaning.specs.declared.code.Block.{Block}
use Rattle.c_meaning.specs.declared.frame.Spot.{Spot}
use Rattle.c_meaning.specs.declared.thread.Function as rust
use Rattle.c_meaning.specs.declared.thread.Frame as machine
use Rattle.c_meaning.specs.Local.{nest, settle, rested}
use Rattle.pl_resource.specs.declared.value.Value.{Value}
use Rattle.c_meaning.specs.Blocks.{IsTable, tree, left_in, left, fits, first}
use Rattle.c_meaning.specs.Events.{Frame, Thread, blank, no_function, or_none, function_numbered, received, resumed}
use Rattle.c_meaning.specs.Machine.{frame_shown, frames_shown, FrameFits, AllFit, function_shown, functions_shown, shown_or_none, depth_of, Places, PlacesFor, IsSpare, IsDeep}
use Rattle.c_meaning.proofs.Moves.{in_first}

map_snoc : {A B : Type 0} (f : A → B) (xs : List A) (x : A) → map f (xs ++ x ∷ []) ≡ map f xs ++ f x ∷ []
map_snoc f [] x = refl
map_snoc f (y ∷ ys) x = ap (λ z. f y ∷ z) (map_snoc f ys x)

-- one frame more is the innermost one
pub shown_snoc : (T : List Block) (fs : List machine.Frame) (f : machine.Frame) → frames_shown T (fs ++ f ∷ []) ≡ frame_shown T f ∷ frames_shown T fs
shown_snoc T fs f = ap reverse (map_snoc (frame_shown T) fs f) ∙ reverse-append (map (frame_shown T) fs) (frame_shown T f ∷ [])

pub fit_snoc : (T : List Block) (fs : List machine.Frame) (f : machine.Frame) → AllFit T fs → FrameFits T f → AllFit T (fs ++ f ∷ [])
fit_snoc T [] f h k = (k, tt)
fit_snoc T (x ∷ fs) f h k = (h.0, fit_snoc T fs f h.1 k)

pub fit_front : (T : List Block) (fs : List machine.Frame) (f : machine.Frame) → AllFit T (fs ++ f ∷ []) → AllFit T fs × FrameFits T f
fit_front T [] f h = (tt, h.0)
fit_front T (x ∷ fs) f h = let r = fit_front T fs f h.1 in ((h.0, r.0), r.1)

-- the first place of a function
pub enters : (T : List Block) (k room : ℕ) (spots empty : List Spot) → IsTable T → empty ≡ [] → spots ≡ empty ++ first k ∷ [] → suc (nest (tree T k)) ≤ room → fits T 0 room spots × (left T spots ≡ tree T k)
enters T k room spots empty is none made h =
    let e : spots ≡ first k ∷ [] = made ∙ ap (λ z. z ++ first k ∷ []) none in
    let here : left_in (tree T) T (first k) ≡ tree T k = in_first T is k in
    (subst (fits T 0 room) (sym e) (omega (arith, h, ap nest here), tt), subst (λ z. left T z ≡ tree T k) (sym e) here)

get_map : {A B : Type 0} (f : A → B) (xs : List A) (k : ℕ) (x : A) → slice_get xs k ≡ Some x → slice_get (map f xs) k ≡ Some (f x)
get_map f [] k x h = cc
get_map f (y ∷ ys) zero x h = cc h
get_map f (y ∷ ys) (suc k) x h = get_map f ys k x h

get_map_none : {A B : Type 0} (f : A → B) (xs : List A) (k : ℕ) → slice_get xs k ≡ None → slice_get (map f xs) k ≡ None
get_map_none f [] k h = refl
get_map_none f (y ∷ ys) zero h = cc
get_map_none f (y ∷ ys) (suc k) h = get_map_none f ys k h

pub function_there : (T : List Block) (fs : List rust.Function) (k : ℕ) (f : rust.Function) → slice_get fs k ≡ Some f → function_shown T f ≡ function_numbered (functions_shown T fs) (Some k)
function_there T fs k f h = sym (ap or_none (get_map (function_shown T) fs k f h))

pub function_missing : (T : List Block) (fs : List rust.Function) (k : ℕ) → slice_get fs k ≡ None → no_function ≡ function_numbered (functions_shown T fs) (Some k)
function_missing T fs k h = sym (ap or_none (get_map_none (function_shown T) fs k h))

pub function_deep : (T : List Block) (o : Option rust.Function) (f : rust.Function) → IsDeep T o → o ≡ Some f → nest (tree T f.body) ≤ f.depth
function_deep T o f h e = subst (IsDeep T) e h

-- places that are enough for the function that is called
pub places_of : (T : List Block) (callee : Option ℕ) (f : Function) (function : Option rust.Function) (room : ℕ) → (callee ≡ None → function ≡ None) → shown_or_none T function ≡ f → PlacesFor callee f room → Places T function room
places_of T callee f None room none shown places = tt
places_of T None f (Some g) room none shown places = absurd (absurd_by (none refl))
  where
    absurd_by : Some g ≡ None → ⊥
    absurd_by h = cc h
places_of T (Some k) f (Some g) room none shown places = subst (λ z. suc (nest z.body) ≤ room) (sym shown) places

-- a frame as deep as the function says
pub places_within : (T : List Block) (function : Option rust.Function) (room : ℕ) → suc (depth_of function) ≤ room → nest (shown_or_none T function).body ≤ depth_of function → Places T function room
places_within T None room h deep = tt
places_within T (Some f) room h deep = omega (arith, h, deep)

pub spare_is : (T : List Block) (k : ℕ) (f : Function) (function : Option rust.Function) (spare : machine.Frame) → shown_or_none T function ≡ f → spare.spots.items ≡ [] → suc (depth_of function) ≤ vec_capacity spare.spots → nest (shown_or_none T function).body ≤ depth_of function → spare.env.items ≡ blank (shown_or_none T function) → IsSpare (Some k) f spare
spare_is T k f function spare shown empty room deep env = record {
  empty = empty;
  places = subst (λ z. suc (nest z.body) ≤ vec_capacity spare.spots) shown (omega (arith, room, deep));
  blank = env ∙ ap blank shown;
}

-- the innermost frame stands last
split_at_last : {A : Type 0} (xs : List A) (n : ℕ) (d : A) → length xs ≡ suc n → xs ≡ take n xs ++ slice_index_or xs n d ∷ []
split_at_last [] n d h = cc h
split_at_last (x ∷ []) zero d h = refl
split_at_last (x ∷ []) (suc n) d h = cc h
split_at_last (x ∷ y ∷ ys) zero d h = cc h
split_at_last (x ∷ y ∷ ys) (suc n) d h = ap (λ z. x ∷ z) (split_at_last (y ∷ ys) n d (omega (arith, h)))

set_at_last : {A : Type 0} (xs : List A) (n : ℕ) (y : A) → length xs ≡ suc n → slice_set xs n y ≡ take n xs ++ y ∷ []
set_at_last [] n y h = cc h
set_at_last (x ∷ []) zero y h = refl
set_at_last (x ∷ []) (suc n) y h = cc h
set_at_last (x ∷ z ∷ zs) zero y h = cc h
set_at_last (x ∷ z ∷ zs) (suc n) y h = ap (λ w. x ∷ w) (set_at_last (z ∷ zs) n y (omega (arith, h)))

-- the innermost frame, and what is there once it has changed
module _ (T : List Block) (count : ℕ) (old new : List machine.Frame) (x y : machine.Frame) (len : length old ≡ count) (some : 0 < count) (at : x ≡ slice_index_or old (count - 1) x) (put : new ≡ slice_set old (count - 1) y) where
  last : length old ≡ suc (count - 1)
  last = omega (arith, some, len)

  old_is : old ≡ take (count - 1) old ++ x ∷ []
  old_is = split_at_last old (count - 1) x last ∙ ap (λ z. take (count - 1) old ++ z ∷ []) (sym at)

  new_is : new ≡ take (count - 1) old ++ y ∷ []
  new_is = put ∙ set_at_last old (count - 1) y last

  pub last_fits : AllFit T old → FrameFits T x
  last_fits h = (fit_front T (take (count - 1) old) x (subst (AllFit T) old_is h)).1

  pub all_fit : AllFit T old → FrameFits T y → AllFit T new
  all_fit h k = subst (AllFit T) (sym new_is) (fit_snoc T (take (count - 1) old) y (fit_front T (take (count - 1) old) x (subst (AllFit T) old_is h)).0 k)

  pub old_shown : frames_shown T old ≡ frame_shown T x ∷ frames_shown T (take (count - 1) old)
  old_shown = ap (frames_shown T) old_is ∙ shown_snoc T (take (count - 1) old) x

  pub new_shown : frames_shown T new ≡ frame_shown T y ∷ frames_shown T (take (count - 1) old)
  new_shown = ap (frames_shown T) new_is ∙ shown_snoc T (take (count - 1) old) y

abbrev frame_with : Option ℕ → Option ℕ → Env × Stmts → Frame
frame_with into child stands = record { left = stands.1; env = stands.0; into = into; child = child }

frame_goes : (f g : Frame) (callers : Thread) (into : Option ℕ) (answer : Option Value) → g.into ≡ f.into → g.child ≡ f.child → rested (settle f.left (received f.env into answer)) ≡ (g.env, g.left) → g ∷ callers ≡ resumed into answer (f ∷ callers)
frame_goes f g callers into answer i c s =
    ap (λ z. frame_with g.into g.child z ∷ callers) (sym s)
    ∙ (ap (λ z. frame_with z g.child (rested (settle f.left (received f.env into answer))) ∷ callers) i
    ∙ ap (λ z. frame_with f.into z (rested (settle f.left (received f.env into answer))) ∷ callers) c)

-- the innermost frame has gone on
pub resumed_is : (T : List Block) (count : ℕ) (old new : List machine.Frame) (x y : machine.Frame) → length old ≡ count → 0 < count → x ≡ slice_index_or old (count - 1) x → new ≡ slice_set old (count - 1) y → (into : Option ℕ) (answer : Option Value) → y.into ≡ x.into → y.child ≡ x.child → rested (settle (left T x.spots.items) (received x.env.items into answer)) ≡ (y.env.items, left T y.spots.items) → frames_shown T new ≡ resumed into answer (frames_shown T old)
resumed_is T count old new x y len some at put into answer i c s =
    new_shown T count old new x y len some at put
    ∙ (frame_goes (frame_shown T x) (frame_shown T y) (frames_shown T (take (count - 1) old)) into answer i c s
    ∙ sym (ap (resumed into answer) (old_shown T count old new x y len some at put)))
