-- Lists with commas, cells and calls are read right.
use Rattle.std.proofs.Common.{◌≡◌, ℕ, Bool, true, false, List, [], ◌∷◌, ◌++◌, map, flat_map, refl, ap, ◌∙◌}
use Rattle.std.specs.Prelude.{◌||◌, ◌==◌, codes}
use Rattle.std.specs.Char.{is_ascii_digit}
use Rattle.std.specs.List.{AllByRecursion}
use Rattle.c_syntax.specs.Text.{behind_commas}
use Rattle.pl_readers.specs.Language.{Starts}
use Rattle.pl_readers.specs.Reader.{Reader, repeat}
use Rattle.pl_readers.specs.Reads.{Reads}
use Rattle.pl_readers.specs.Bytes.{is}
use Rattle.c_forms.specs.Reading.{after}
use Rattle.c_forms.specs.Text.{expr_text}
use Rattle.c_forms.specs.Forms.{IsExprForm}
use Rattle.c_forms.specs.ExprReaders.{expr}
use Rattle.c_forms.proofs.ExprReads.{alts_expr}
use Rattle.c_forms.proofs.Spelling.{Spells, Good, lit, many, begin_spells}

-- ---- lists

pub behind_map : {A : Type 0} (f : A → List ℕ) (as' : List A) → behind_commas (map f as') ≡ flat_map (λ a. codes ", " ++ f a) as'
behind_map f [] = refl
behind_map f (a ∷ as') = ap (λ (r : List ℕ). codes ", " ++ f a ++ r) (behind_map f as') ∙ refl

abbrev pub comma_or : (ℕ → Bool) → ℕ → Bool
comma_or g x = (x == 44) || g x

-- the first of a list, and more
module _ {A : Type 0} (W : A → Type 0) (f : A → List ℕ) (g : ℕ → Bool) (F P : Reader ℕ A) (at_comma : g 44 ≡ false) (p : Good (Spells W f) g P) where
  abbrev pub after_comma : A → List ℕ
  after_comma a = codes ", " ++ f a

  good_next : Good (Spells W after_comma) g (after (codes ", ") P)
  good_next = lit W f g P (codes ", ") p

  left : (b : Bool) (x : ℕ) → (x == 44) ≡ b → comma_or g x ≡ false → b ≡ false
  left true x e h = let h1 : true ≡ false = (rw e at h) in h1
  left false x e h = refl

  right : (b : Bool) (x : ℕ) → (x == 44) ≡ b → comma_or g x ≡ false → g x ≡ false
  right true x e h = let h1 : true ≡ false = (rw e at h) in absurd cc
  right false x e h = (let h1 = (rw e at h) in h1)

  pub good_more_items : Good (Spells (AllByRecursion W) (flat_map after_comma)) (comma_or g) (repeat (is 44) (after (codes ", ") P))
  good_more_items = many W after_comma 44 g (comma_or g) (after (codes ", ") P) (begin_spells 44 (codes " ") W f) at_comma
      (λ x h. left (x == 44) x refl h) (λ x h. right (x == 44) x refl h) good_next

-- an expression behind a comma
pub reads_next_expr : Reads (Spells IsExprForm (λ e. codes ", " ++ expr_text e)) (Spells IsExprForm (λ e. codes ", " ++ expr_text e)) is_ascii_digit (after (codes ", ") expr)
reads_next_expr = (good_next IsExprForm expr_text is_ascii_digit expr expr refl alts_expr.good).reads

pub starts_next_expr : Starts (is 44) (Spells IsExprForm (λ e. codes ", " ++ expr_text e))
starts_next_expr e text u = (44, codes " " ++ expr_text e, u.1, refl)
