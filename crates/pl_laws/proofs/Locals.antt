-- The names that are bound and the locals of C.
use Rattle.std.proofs.Common.{◌≡◌, ℕ, zero, suc, ◌<◌, arith, Bool, true, false, if◌then◌else◌, Option, Some, None, List, [], ◌∷◌, length, map, Result, Ok, Err, refl, ap, ◌∙◌, subst, slice_get, slice_set, slice_index_or}
use Rattle.std.specs.Prelude.{option_map}
use Rattle.std.specs.Str.{bytes_eq}
use Rattle.std.proofs.lemmas.Option.{slice_get-map}
use Rattle.pl_resource.specs.declared.value.Value as word
use Rattle.pl_resource.specs.declared.value.Fault.{Fault}
use Rattle.pl_resource.specs.declared.value.Fault.TheVariants as fault
use Rattle.pl_resource.specs.Heap as heap
use Rattle.pl_resource.specs.Heap.{if_alive, if_there}
use Rattle.c_meaning.specs.Values.{Env, Outcome, known, local_of, eval}
use Rattle.c_meaning.specs.Resolve.{term_of}
use Rattle.c_meaning.proofs.StateEvents.{get_set}
use Rattle.pl_syntax.specs.Tree.{Name, Expr, Int, Var}
use Rattle.pl_syntax.specs.Values.{Value, Number, Vars, no_vars, bind, value_of}
use Rattle.pl_source.specs.Machine.{HeapBlock, Heap, if_live, block_at, field_at}
use Rattle.pl_erase.specs.Emitted.{Numbers, no_numbers, number, emitted_expr}
use Rattle.pl_laws.specs.SameRuns.{c_value, c_block, c_blocks}

-- ---- lists

pub get_other : {A : Type 0} (xs : List A) (t u : ℕ) (x : A) → u < t → slice_get (slice_set xs t x) u ≡ slice_get xs u
get_other [] t u x h = refl
get_other (y ∷ xs) zero u x h = absurd (omega (arith, h))
get_other (y ∷ xs) (suc t) zero x h = refl
get_other (y ∷ xs) (suc t) (suc u) x h = get_other xs t u x (omega (arith, h))

pub map_set : {A B : Type 0} (f : A → B) (xs : List A) (i : ℕ) (x : A) → map f (slice_set xs i x) ≡ slice_set (map f xs) i (f x)
map_set f [] i x = refl
map_set f (y ∷ xs) zero x = refl
map_set f (y ∷ xs) (suc i) x = ap (λ l. f y ∷ l) (map_set f xs i x)

-- ---- locals

-- a bound name's local has its value, and a number below the next binder's
abbrev pub LocalFits : ℕ → ℕ → Env → Option Value → Type 0
LocalFits n k env None = Unit {0}
LocalFits n k env (Some w) = (k < n) × (slice_get env k ≡ Some (c_value w))

-- the names that are bound have their values in their locals
pub record Locals (n : ℕ) (numbers : Numbers) (vars : Vars) (env : Env) : Type 0 where
  pub at : (y : Name) → LocalFits n (numbers y) env (vars y)

pub locals_none : (env : Env) → Locals 1 no_numbers no_vars env
locals_none env = record { at = λ y. tt }

fits_still : (n k : ℕ) (env : Env) (v : word.Value) (o : Option Value) → LocalFits n k env o → LocalFits (suc n) k (slice_set env n v) o
fits_still n k env v None h = tt
fits_still n k env v (Some w) h = (omega (arith, h.0), get_other env n k v h.0 ∙ h.1)

fits_either : (b : Bool) (n k : ℕ) (env : Env) (w : Value) (o : Option Value) → n < length env → LocalFits n k env o → LocalFits (suc n) (if b then n else k) (slice_set env n (c_value w)) (if b then Some w else o)
fits_either true n k env w o room h = (omega arith, get_set env n (c_value w) room)
fits_either false n k env w o room h = fits_still n k env (c_value w) o h

pub locals_bind : (n : ℕ) (numbers : Numbers) (vars : Vars) (env : Env) (x : Name) (w : Value) → n < length env → Locals n numbers vars env → Locals (suc n) (number x n numbers) (bind x w vars) (slice_set env n (c_value w))
locals_bind n numbers vars env x w room l = record { at = λ y. fits_either (bytes_eq y x) n (numbers y) env w (vars y) room (l.at y) }

pub local_value : (n : ℕ) (numbers : Numbers) (vars : Vars) (env : Env) (y : Name) (w : Value) → Locals n numbers vars env → vars y ≡ Some w → local_of env (numbers y) ≡ Ok (c_value w)
local_value n numbers vars env y w l e =
    let fits : LocalFits n (numbers y) env (Some w) = subst (LocalFits n (numbers y) env) e (l.at y) in
    ap known fits.1

pub expr_value : (n : ℕ) (numbers : Numbers) (vars : Vars) (env : Env) (e : Expr) (w : Value) → Locals n numbers vars env → value_of vars e ≡ Some w → eval env (term_of (emitted_expr numbers e)) ≡ Ok (c_value w)
expr_value n numbers vars env (Int place k) w l h = let same : Number k ≡ w = cc in ap (λ v. Ok (c_value v)) same
expr_value n numbers vars env (Var place y) w l h = local_value n numbers vars env y w l h
expr_value n numbers vars env _ w l h = cc

-- ---- blocks

abbrev pub alive_as : Option HeapBlock → Result heap.Block Fault
alive_as None = Err fault.Dead
alive_as (Some block) = Ok (c_block block)

alive_is : (o : Option (Option HeapBlock)) → if_alive (option_map (option_map c_block) o) ≡ alive_as (if_live o)
alive_is None = refl
alive_is (Some None) = refl
alive_is (Some (Some block)) = refl

-- a block of C is that of the source
pub block_is : (bs : heap.Blocks) (h : Heap) (b : ℕ) → bs ≡ c_blocks h → heap.block_of bs b ≡ alive_as (block_at h b)
block_is bs h b e = ap (λ l. heap.block_of l b) e ∙ ap if_alive (slice_get-map (option_map c_block) h b) ∙ alive_is (slice_get h b)

abbrev pub there_as : Option Value → Outcome
there_as None = Err fault.Outside
there_as (Some w) = Ok (c_value w)

-- so is the value of its first cell
pub cell_is : (elements : List (List Value)) → if_there (slice_get (slice_index_or (map (map c_value) elements) 0 []) 0) ≡ there_as (field_at (slice_get elements 0) 0)
cell_is [] = refl
cell_is ([] ∷ rest) = refl
cell_is ((w ∷ ws) ∷ rest) = refl
