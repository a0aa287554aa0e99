-- The two sums whose difference the parts of an inequality are.
use Rattle.std.specs.Prelude.{pos, negsuc, neg_ℤ, int_lt, ◌&&◌, if◌then◌else◌, List, [], ◌∷◌, map}
use Rattle.std.specs.Ordering.{int_eq}
use Rattle.pl_forms.specs.declared.form.Part.{Part}
use Rattle.pl_linear.specs.declared.ends.Ends.{Ends}

-- the opposite of a part
abbrev pub minus : Part → Part
minus p = record { coeff = neg_ℤ p.coeff; atom = p.atom }

-- a sum is one node: itself where its first multiple is positive, and else its opposite
abbrev pub general : List Part → Ends
general [] = record { to = []; from = [] }
general (p ∷ ps) = if int_lt (pos 0) p.coeff then (record { to = p ∷ ps; from = [] }) else (record { to = []; from = map minus (p ∷ ps) })

-- a difference of two atoms has both as nodes
abbrev pub split : List Part → Ends
split [] = general []
split (p ∷ []) = general (p ∷ [])
split (p ∷ q ∷ []) =
    if int_eq p.coeff (pos 1) && int_eq q.coeff (negsuc 0) then (record { to = p ∷ []; from = minus q ∷ [] })
    else (if int_eq p.coeff (negsuc 0) && int_eq q.coeff (pos 1) then (record { to = q ∷ []; from = minus p ∷ [] }) else general (p ∷ q ∷ []))
split (p ∷ q ∷ r ∷ rest) = general (p ∷ q ∷ r ∷ rest)
