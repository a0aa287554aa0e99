-- Sets of names.
use Rattle.std.specs.Prelude.{◌≡◌, ◌||◌, Bool, List}
use Rattle.std.specs.List.{list_any}
use Rattle.std.specs.Str.{bytes_eq}
use Rattle.std.specs.HashSet.{HashSet}
use Rattle.c_syntax.specs.Tree.{Name}

-- whether the set has the name, where text is the name that a key is
abbrev pub has_name : {K S : Type 0} → (K → Name) → HashSet K S → Name → Bool
has_name text set name = list_any (λ k. bytes_eq name (text k)) set.keys

-- the new set has what the old one has and these names
pub record AddsNames {K S : Type 0} (text : K → Name) (old new : HashSet K S) (names : List Name) : Type 0 where
  pub each : (q : K) → has_name text new (text q) ≡ (has_name text old (text q) || list_any (bytes_eq (text q)) names)

-- the set has these names and no others
pub record HasNames {K S : Type 0} (text : K → Name) (set : HashSet K S) (names : List Name) : Type 0 where
  pub each : (q : K) → has_name text set (text q) ≡ list_any (bytes_eq (text q)) names
