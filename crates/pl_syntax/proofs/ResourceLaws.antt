-- The laws of resources.
use Rattle.std.proofs.Common.{◌≡◌, ◌≢◌, ℕ, zero, suc, Option, Some, None, Bool, true, false, ◌&&◌, if◌then◌else◌, List, [], ◌∷◌, ◌++◌, refl, sym, ap, ◌∙◌, subst, ◌⊎◌, inl, inr, slice_get, set, true≢false, arith}
use mathlib.Core.Path.{fun_ext}
use Rattle.std.proofs.lemmas.Bool.{cases_Bool}
use Rattle.pl_base.specs.Permission.{Permission, IsLike, whole, same_number}
use Rattle.pl_base.proofs.PermissionLaws.{permission_comm, permission_assoc, permission_full, like_refl, number_sound, number_refl}
use Rattle.pl_syntax.specs.Values.{Value}
use Rattle.pl_syntax.specs.Resource.{Mark, Place, Cell, FreeToken, same_place, Share, Resource, ShareAdds, Adds, nothing, IsEmpty, put_at, Sums}
use Rattle.pl_syntax.specs.Holds.{Owns}

-- two shares of one place add in either order
pub share_comm : (a b c : Option Share) → ShareAdds a b c → ShareAdds b a c
share_comm None None c h = h
share_comm None (Some b) c h = h
share_comm (Some a) None c h = h
share_comm (Some a) (Some b) None h = h
share_comm (Some a) (Some b) (Some c) h = record {
  permissions = permission_comm h.permissions;
  values_agree = sym h.values_agree;
  marks_agree = sym h.marks_agree;
  value = h.value ∙ h.values_agree;
  mark = h.mark ∙ h.marks_agree;
}

-- two parts add in either order
pub adds_comm : {x y z : Resource} → Adds x y z → Adds y x z
adds_comm {x} {y} {z} h = record { at = λ p. share_comm (x p) (y p) (z p) (h.at p) }

-- three shares of one place may be added from the right
pub share_assoc : (a b c s t : Option Share) → ShareAdds a b s → ShareAdds s c t → (u : Option Share) × ShareAdds b c u × ShareAdds a u t
share_assoc None b c s t h k = (t, subst (λ v. ShareAdds v c t) h k, refl)
share_assoc (Some a) None c s t h k = (c, refl, subst (λ v. ShareAdds v c t) h k)
share_assoc (Some a) (Some b) c None t h k = absurd h
share_assoc (Some a) (Some b) None (Some s) t h k = (Some b, refl, subst (λ v. ShareAdds (Some a) (Some b) v) (sym k) h)
share_assoc (Some a) (Some b) (Some c) (Some s) None h k = absurd k
share_assoc (Some a) (Some b) (Some c) (Some s) (Some t) h k =
    let r = permission_assoc a.permission b.permission c.permission s.permission t.permission h.permissions k.permissions in (
      Some (record { permission = r.0; value = b.value; mark = b.mark }),
      record { permissions = r.1; values_agree = cc; marks_agree = cc; value = refl; mark = refl },
      record { permissions = r.2; values_agree = h.values_agree; marks_agree = h.marks_agree; value = cc; mark = cc },
    )

-- three parts may be added from the right
pub adds_assoc : {x y z s t : Resource} → Adds x y s → Adds s z t → (u : Resource) × Adds y z u × Adds x u t
adds_assoc {x} {y} {z} {s} {t} h k =
    let f = λ (p : Place). share_assoc (x p) (y p) (z p) (s p) (t p) (h.at p) (k.at p) in
    (λ p. (f p).0, record { at = λ p. (f p).1 }, record { at = λ p. (f p).2 })

-- three parts may be added from the left
pub adds_assoc' : {x y z u t : Resource} → Adds y z u → Adds x u t → (s : Resource) × Adds x y s × Adds s z t
adds_assoc' h k = let r = adds_assoc (adds_comm h) (adds_comm k) in (r.0, adds_comm r.1, adds_comm r.2)

-- of two sums, the first parts and the rests may be added apart
pub adds_swap : {x r a y q b z : Resource} → Adds x r a → Adds y q b → Adds a b z → (w : Resource) × (f : Resource) × Adds x y w × Adds r q f × Adds w f z
adds_swap h k l =
    let u = adds_assoc h l in
    let v = adds_assoc k (adds_comm u.1) in
    let w = adds_assoc' v.2 u.2 in
    (w.0, v.0, w.1, adds_comm v.1, w.2)

-- nothing and x are x
pub adds_nothing : (x : Resource) → Adds nothing x x
adds_nothing x = record { at = λ p. refl }

-- x and nothing are x
pub adds_nothing' : (x : Resource) → Adds x nothing x
adds_nothing' x = adds_comm (adds_nothing x)

-- nothing is empty
pub nothing_empty : IsEmpty nothing
nothing_empty = record { none = λ p. refl }

-- with an empty part the other is the whole
pub adds_empty : {e x z : Resource} → IsEmpty e → Adds e x z → z ≡ x
adds_empty {e} {x} {z} n h = fun_ext (λ p. subst (λ o. ShareAdds o (x p) (z p)) (n.none p) (h.at p))

-- an empty part adds nothing
pub empty_adds : {e : Resource} (x : Resource) → IsEmpty e → Adds e x x
empty_adds {e} x n = record { at = λ p. subst (λ o. ShareAdds o (x p) (x p)) (sym (n.none p)) refl }

-- beside a whole share there is none
pub share_alone : (x y z : Option Share) (a : Share) → x ≡ Some a → a.permission.num ≡ a.permission.den → ShareAdds x y z → y ≡ None
share_alone x None z a e f h = refl
share_alone None (Some b) z a e f h = cc
share_alone (Some c) (Some b) None a e f h = absurd h
share_alone (Some c) (Some b) (Some d) a e f h =
    let k : c ≡ a = cc in
    absurd (permission_full c.permission b.permission d.permission (subst (λ (s : Share). s.permission.num ≡ s.permission.den) (sym k) f) h.permissions)

-- where one part has all of a place, the other has nothing of it
pub adds_alone : {x y z : Resource} (p : Place) (a : Share) → Adds x y z → x p ≡ Some a → a.permission.num ≡ a.permission.den → y p ≡ None
adds_alone {x} {y} {z} p a h e f = share_alone (x p) (y p) (z p) a e f (h.at p)

-- a sum of shares has their value and mark
pub share_within : (x y z : Option Share) (a : Share) → x ≡ Some a → ShareAdds x y z → (c : Share) × (z ≡ Some c) × (c.value ≡ a.value) × (c.mark ≡ a.mark)
share_within None y z a e h = cc
share_within (Some b) None z a e h = (a, cc, refl, refl)
share_within (Some b) (Some c) None a e h = absurd h
share_within (Some b) (Some c) (Some d) a e h = let k : b ≡ a = cc in (d, refl, h.value ∙ ap (λ (s : Share). s.value) k, h.mark ∙ ap (λ (s : Share). s.mark) k)

-- what a part has the whole has, with the same value and mark
pub adds_within : {x y z : Resource} (p : Place) (a : Share) → Adds x y z → x p ≡ Some a → (c : Share) × (z p ≡ Some c) × (c.value ≡ a.value) × (c.mark ≡ a.mark)
adds_within {x} {y} {z} p a h e = share_within (x p) (y p) (z p) a e (h.at p)

-- where a sum has nothing, no part has
pub share_none : (x y z : Option Share) → z ≡ None → ShareAdds x y z → (x ≡ None) × (y ≡ None)
share_none None y z e h = (refl, sym h ∙ e)
share_none (Some a) None z e h = cc
share_none (Some a) (Some b) None e h = absurd h
share_none (Some a) (Some b) (Some c) e h = cc

-- where the whole has nothing, no part has
pub adds_none : {x y z : Resource} (p : Place) → Adds x y z → z p ≡ None → (x p ≡ None) × (y p ≡ None)
adds_none {x} {y} {z} p h e = share_none (x p) (y p) (z p) e (h.at p)

-- where no part has anything, the whole has nothing
pub share_both_none : (x y z : Option Share) → x ≡ None → y ≡ None → ShareAdds x y z → z ≡ None
share_both_none None y z e f h = h ∙ f
share_both_none (Some a) y z e f h = cc

-- a share may change where the other part has none
pub share_put : (b : Bool) (s x y z : Option Share) → (b ≡ true → y ≡ None) → ShareAdds x y z → ShareAdds (if b then s else x) y (if b then s else z)
share_put false s x y z e h = h
share_put true None x y z e h = sym (e refl)
share_put true (Some a) x y z e h = subst (λ o. ShareAdds (Some a) o (Some a)) (sym (e refl)) refl

-- both tests of a conjunction pass
pub both_true : (a b : Bool) → a && b ≡ true → (a ≡ true) × (b ≡ true)
both_true true b h = (refl, h)
both_true false b h = cc

-- places that the test tells are one are equal
pub place_sound : (p q : Place) → same_place p q ≡ true → p ≡ q
place_sound (Cell b i f) (Cell c j g) h =
    let r = both_true (same_number b c && same_number i j) (same_number f g) h in
    let l = both_true (same_number b c) (same_number i j) r.0 in
    let m = number_sound b c l.0 in
    let n = number_sound i j l.1 in
    let o = number_sound f g r.1 in
    cc
place_sound (FreeToken a) (FreeToken b) h = ap FreeToken (number_sound a b h)
place_sound (Cell b i f) (FreeToken c) h = cc
place_sound (FreeToken b) (Cell c j g) h = cc

-- a place is the same as itself
pub place_refl : (p : Place) → same_place p p ≡ true
place_refl (Cell b i f) = ap (λ t. t && same_number i i && same_number f f) (number_refl b) ∙ ap (λ t. t && same_number f f) (number_refl i) ∙ number_refl f
place_refl (FreeToken a) = number_refl a

-- the test tells different places apart
pub place_other : (p q : Place) → p ≢ q → same_place p q ≡ false
place_other p q h = elim (cases_Bool (same_place p q)) [ inl e ↦ absurd (h (place_sound p q e)) | inr e ↦ e ]

-- places that the test tells apart are different
pub place_apart : (p q : Place) → same_place p q ≡ false → q ≢ p
place_apart p q e k = true≢false (sym (place_refl p) ∙ ap (same_place p) (sym k) ∙ e)

-- two places are equal or not
pub place_cases : (p q : Place) → (p ≡ q) ⊎ (q ≢ p)
place_cases p q = elim (cases_Bool (same_place p q)) [ inl e ↦ inl (place_sound p q e) | inr e ↦ inr (place_apart p q e) ]

-- what was put at a place is there
pub put_same : (p : Place) (s : Option Share) (x : Resource) → put_at p s x p ≡ s
put_same p s x = ap (λ b. if b then s else x p) (place_refl p)

-- other places are as they were
pub put_other : (p q : Place) (s : Option Share) (x : Resource) → p ≢ q → put_at p s x q ≡ x q
put_other p q s x h = ap (λ b. if b then s else x q) (place_other p q h)

-- a part may change at a place where the other has nothing
pub adds_put : {x y z : Resource} (p : Place) (s : Option Share) → y p ≡ None → Adds x y z → Adds (put_at p s x) y (put_at p s z)
adds_put {x} {y} {z} p s e h = record { at = λ q. share_put (same_place p q) s (x q) (y q) (z q) (λ k. subst (λ r. y r ≡ None) (place_sound p q k) e) (h.at q) }

-- a share of one place where there was none
pub put_adds : {x : Resource} (p : Place) (s : Option Share) → x p ≡ None → Adds (put_at p s nothing) x (put_at p s x)
put_adds {x} p s e = adds_put p s e (adds_nothing x)

-- a permission like the whole has equal parts
pub whole_full : (p : Permission) → IsLike p whole → p.num ≡ p.den
whole_full p h = omega (arith, h.cross)

-- where a part owns all of a place, the other has nothing of it
pub owned_alone : {x y z : Resource} {value : Value} {mark : Mark} (place : Place) → Owns place whole value mark x → Adds x y z → y place ≡ None
owned_alone place o a = adds_alone place o.share a o.here (whole_full o.share.permission o.like)

-- what a part owns is in the whole, with the same value and mark
pub owned_within : {x y z : Resource} {permission : Permission} {value : Value} {mark : Mark} (place : Place) → Owns place permission value mark x → Adds x y z → (c : Share) × (z place ≡ Some c) × (c.value ≡ value) × (c.mark ≡ mark)
owned_within place o a = let r = adds_within place o.share a o.here in (r.0, r.1, r.2 ∙ o.value, r.3 ∙ o.mark)

-- one place alone, of which all is owned
pub owns_put : (place : Place) (value : Value) (mark : Mark) → Owns place whole value mark (put_at place (Some (record { permission = whole; value = value; mark = mark })) nothing)
owns_put place value mark = record {
  share = record { permission = whole; value = value; mark = mark };
  here = put_same place _ nothing;
  like = like_refl whole;
  value = refl;
  mark = refl;
  else = λ q k. put_other place q _ nothing (λ e. k (sym e));
}

-- giving the only place up leaves nothing
pub owns_none : {permission : Permission} {value : Value} {mark : Mark} {x : Resource} (place : Place) → Owns place permission value mark x → IsEmpty (put_at place None x)
owns_none {x = x} place o = record { none = λ q. elim (place_cases place q) [ inl e ↦ subst (λ r. put_at place None x r ≡ None) e (put_same place None x) | inr n ↦ put_other place q None x (λ e. n (sym e)) ∙ o.else q n ] }

-- giving a place up that one part owns leaves the other
pub give_up : {x y z : Resource} {value : Value} {mark : Mark} (place : Place) → Owns place whole value mark x → Adds x y z → put_at place None z ≡ y
give_up place o a = adds_empty (owns_none place o) (adds_put place None (owned_alone place o a) a)

-- one part of many, and the rest
pub record Focus (parts : List Resource) (i : ℕ) (x z : Resource) : Type 0 where
  pub rest : Resource
  pub adds : Adds x rest z
  pub back : (x' z' : Resource) → Adds x' rest z' → Sums (set parts i x') z'

-- each part of a sum has its rest
pub focus : (parts : List Resource) (i : ℕ) (x z : Resource) → slice_get parts i ≡ Some x → Sums parts z → Focus parts i x z
focus [] i x z e h = cc
focus (y ∷ ys) zero x z e h =
    let k : y ≡ x = cc in
    record { rest = h.0; adds = subst (λ v. Adds v h.0 z) k h.1; back = λ x' z' a. (h.0, a, h.2) }
focus (y ∷ ys) (suc i) x z e h =
    let f = focus ys i x h.0 e h.2 in
    let a = adds_assoc f.adds (adds_comm h.1) in
    record {
      rest = a.0;
      adds = a.2;
      back = λ x' z' b. let c = adds_assoc' (a.1) b in (c.0, adds_comm c.2, f.back x' c.0 c.1);
    }

-- one part is a sum
pub sums_one : (x : Resource) → Sums (x ∷ []) x
sums_one x = (nothing, adds_nothing' x, nothing_empty)

-- one more part, at the front
pub sums_more : (parts : List Resource) (x y z : Resource) → Sums parts y → Adds x y z → Sums (x ∷ parts) z
sums_more parts x y z h a = (y, a, h)

-- one more part, at the end
pub sums_last : (parts : List Resource) (x y z : Resource) → Sums parts y → Adds x y z → Sums (parts ++ x ∷ []) z
sums_last [] x y z h a = (y, a, h)
sums_last (v ∷ vs) x y z h a =
    let b = adds_assoc h.1 (adds_comm a) in (b.0, b.2, sums_last vs x h.0 b.0 h.2 (adds_comm b.1))
