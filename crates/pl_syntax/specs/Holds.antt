-- What a points-to and a block say of a part, by the values of their terms.
use Rattle.std.specs.Prelude.{◌≡◌, ◌≢◌, ℕ, pos, Option, Some, None}
use Rattle.pl_base.specs.Permission.{Permission, IsLike, whole}
use Rattle.pl_syntax.specs.declared.expr.Sort.TheVariants.{I64}
use Rattle.pl_syntax.specs.Values.{Value, Number, Block, HasSort}
use Rattle.pl_syntax.specs.Resource.{Mark, Plain, Place, Cell, FreeToken, Share, Resource}

-- owns exactly this place, with this permission, value and mark
pub record Owns (place : Place) (permission : Permission) (word : Value) (kind : Mark) (x : Resource) : Type 0 where
  pub share : Share
  pub here : x place ≡ Some share
  pub like : IsLike share.permission permission
  pub value : share.value ≡ word
  pub mark : share.mark ≡ kind
  pub else : (q : Place) → q ≢ place → x q ≡ None

-- `r |->{p} v`: exactly the plain cell of a `ref i64`, with that permission, and its value is v
pub record OwnsCell (base : Option Value) (part : Option Permission) (v : Option Value) (x : Resource) : Type 0 where
  pub block : ℕ
  pub permission : Permission
  pub word : Value
  pub base_is : base ≡ Some (Block block)
  pub part_is : part ≡ Some permission
  pub word_is : v ≡ Some word
  pub sorted : HasSort I64 word
  pub owns : Owns (Cell block 0 0) permission word Plain x

-- `block(r, n)`: the whole free token of a block of n elements
pub record OwnsBlock (base : Option Value) (count : Option Value) (x : Resource) : Type 0 where
  pub block : ℕ
  pub elements : ℕ
  pub base_is : base ≡ Some (Block block)
  pub count_is : count ≡ Some (Number (pos elements))
  pub owns : Owns (FreeToken block) whole (Number (pos elements)) Plain x
