-- What a file declares, by name.
use Rattle.std.specs.Prelude.{ℕ, ◌+◌, Bool, true, false, Option, Some, None, List, [], ◌∷◌, filter, if◌then◌else◌}
use Rattle.std.specs.Str.{bytes_eq}
use Rattle.pl_syntax.specs.declared.expr.Binder.{Binder}
use Rattle.pl_syntax.specs.declared.expr.Class.{Class}
use Rattle.pl_syntax.specs.declared.expr.Class.TheVariants as class
use Rattle.pl_syntax.specs.declared.expr.Sort.{Sort}
use Rattle.pl_syntax.specs.Tree.{Name, FunDecl, Decl, Struct, Pred, Fun}
use Rattle.pl_syntax.specs.Scopes.{read_as}

-- a function, and its place among all declarations
pub record Placed : Type 0 where
  pub place : ℕ
  pub fun : FunDecl

-- the fields of structures, the parameters of predicates, the functions, and whether some structure has a field of that name
pub record Known : Type 0 where
  pub structs : Name → Option (List Binder)
  pub preds : Name → Option (List Binder)
  pub funs : Name → Option Placed
  pub has_field : Name → Bool

-- the fields of structures by name; of two of one name the first counts
abbrev pub with_struct : Decl → (Name → Option (List Binder)) → Name → Option (List Binder)
with_struct (Struct s) structs = λ q. if bytes_eq q s.name then Some s.fields else structs q
with_struct _ structs = structs

abbrev pub structs_of : List Decl → Name → Option (List Binder)
structs_of [] = λ q. None
structs_of (d ∷ rest) = with_struct d (structs_of rest)

-- the parameters of predicates by name
abbrev pub with_pred : Decl → (Name → Option (List Binder)) → Name → Option (List Binder)
with_pred (Pred p) preds = λ q. if bytes_eq q p.name then Some p.params else preds q
with_pred _ preds = preds

abbrev pub preds_of : List Decl → Name → Option (List Binder)
preds_of [] = λ q. None
preds_of (d ∷ rest) = with_pred d (preds_of rest)

-- functions by name, among declarations of which the first has the place k
abbrev pub with_fun : ℕ → Decl → (Name → Option Placed) → Name → Option Placed
with_fun k (Fun f) funs = λ q. if bytes_eq q f.name then Some (record { place = k; fun = f }) else funs q
with_fun k _ funs = funs

abbrev pub funs_of : ℕ → List Decl → Name → Option Placed
funs_of k [] = λ q. None
funs_of k (d ∷ rest) = with_fun k d (funs_of (k + 1) rest)

-- names that were seen, and one more
abbrev pub Taken : Type 0
Taken = Name → Bool

abbrev pub nothing : Taken
nothing q = false

abbrev pub put : Name → Taken → Taken
put name taken = λ q. if bytes_eq name q then true else taken q

-- the names of fields, behind those that were seen before
abbrev pub put_fields : List Binder → Taken → Taken
put_fields [] taken = taken
put_fields (b ∷ bs) taken = put_fields bs (put b.name taken)

abbrev pub with_fields : Decl → Taken → Taken
with_fields (Struct s) taken = put_fields s.fields taken
with_fields _ taken = taken

abbrev pub fields_of : List Decl → Taken → Taken
fields_of [] taken = taken
fields_of (d ∷ rest) taken = fields_of rest (with_fields d taken)

-- the sort of the first of these binders that has that name
abbrev pub sort_in : Name → List Binder → Option Sort
sort_in x [] = None
sort_in x (b ∷ bs) = if bytes_eq x b.name then Some (read_as b.sort) else sort_in x bs

abbrev pub known_in : List Decl → Known
known_in decls = record {
  structs = structs_of decls;
  preds = preds_of decls;
  funs = funs_of 0 decls;
  has_field = fields_of decls nothing;
}

-- logical parameters have no written arguments
abbrev pub is_written : Class → Bool
is_written class.Logical = false
is_written _ = true

-- the parameters for which a call has arguments
abbrev pub written : List Binder → List Binder
written params = filter (λ b. is_written b.class) params
