-- A program whose duties are all done, and two that leave one undone: the premises of the laws can be met.
use Rattle.std.proofs.Common.{◌≡◌, ℕ, pos, false, None, List, [], ◌∷◌, ◌++◌, refl, sym, ap, ap₂, inl, inr, arith}
use lib.Chars.{codes}
use Rattle.std.specs.Fmt.{digits, decimal}
use Rattle.pl_base.specs.declared.pos.Pos.{Pos}
use Rattle.pl_base.specs.Permission.{whole}
use Rattle.pl_syntax.specs.Plain.{chain}
use Rattle.pl_syntax.specs.Tree.{Name, Int, Var, Whole, Emp, Stmt, Load, Alloc, Free, Print, braces, FunDecl}
use Rattle.pl_terms.specs.declared.term.Term.TheVariants.{Literal, Variable}
use Rattle.pl_terms.specs.Terms.{Block}
use Rattle.pl_terms.specs.Table.{Known, start, allocated, put}
use Rattle.pl_deriv.specs.Derivations.{Derives}
use Rattle.pl_walk.specs.declared.walk.Duty.TheVariants.{Missing, Leftover}
use Rattle.pl_walk.specs.Walk.{WalksLoad, WalksFree, Walks, atoms_text, Undone, AllDone}
use Rattle.pl_walk.proofs.WalkLaws.{all_done_derives}

-- the name of the cell
abbrev pub r : Name
r = codes "r"

-- the name of its value
abbrev pub v : Name
v = codes "v"

-- the first statement's place in a line
abbrev pub at : ℕ → Pos
at k = record { line = k; col = 3; byte = 0 }

-- `let r = alloc(5); let v = !r; print(v);`
abbrev pub prints : List Stmt
prints = Alloc (at 2) r (Int (at 2) (pos 5)) ∷ Load (at 3) v (Whole r) false ∷ Print (at 4) (Var (at 4) v) ∷ []

-- `free(r);`
abbrev pub frees : ℕ → Stmt
frees line = Free (at line) r

-- a function `main` of these statements
abbrev pub main_of : List Stmt → FunDecl
main_of list = record {
  pos = at 1;
  is_ghost = false;
  name = codes "main";
  params = [];
  opens = false;
  before = Emp (at 1);
  result = None;
  after = Emp (at 1);
  measure = None;
  body = braces (chain list) (record { line = 5; col = 1; byte = 0 });
}

-- it frees what it allocates
abbrev pub main : FunDecl
main = main_of (prints ++ frees 5 ∷ [])

-- what is known before the free
abbrev pub loaded : Known
loaded = record (allocated start r (Literal (pos 5))) { names = put v (Literal (pos 5)) (allocated start r (Literal (pos 5))).names }

-- what is known after the free
abbrev pub freed : Known
freed = record loaded { atoms = [] }

-- the load takes the first atom
pub loads : WalksLoad (allocated start r (Literal (pos 5))) v r loaded
loads = record {
  rule = record { base = Variable 0; base_is = refl; front = []; permission = whole; value = Literal (pos 5); back = Block (Variable 0) (Literal (pos 1)) ∷ []; at = refl; is = refl };
  first = λ k d l. absurd (omega arith);
}

-- the free takes both
pub frees_both : WalksFree loaded r freed
frees_both = record {
  rule = record {
    base = Variable 0;
    base_is = refl;
    front = [];
    value = Literal (pos 5);
    back = Block (Variable 0) (Literal (pos 1)) ∷ [];
    cell_at = refl;
    front' = [];
    back' = [];
    block_at = refl;
    is = refl;
  };
  first_cell = λ k d l. absurd (omega arith);
  first_block = λ k d l. absurd (omega arith);
}

-- the first three statements go well
pub walks_prints : Walks start prints loaded
walks_prints = (_, record { value = Literal (pos 5); value_is = refl; is = refl }, (_, loads, (_, record { value = Literal (pos 5); value_is = refl; is = refl }, refl)))

-- so does the free after them
pub walks_main : Walks start (prints ++ frees 5 ∷ []) freed
walks_main = (_, record { value = Literal (pos 5); value_is = refl; is = refl }, (_, loads, (_, record { value = Literal (pos 5); value_is = refl; is = refl }, (_, frees_both, refl))))

-- each duty is done
pub done : AllDone main
done = record { end = freed; walks = walks_main; none_left = refl }

-- so the program derives
pub derives : Derives main
derives = all_done_derives main done

-- a second free is refused: `6:3: missing r |-> _`
pub second_free : Undone (main_of (prints ++ frees 5 ∷ frees 6 ∷ [])) (at 6) (Missing (codes "r |-> _"))
second_free = inl (record {
  before = prints ++ frees 5 ∷ [];
  stmt = frees 6;
  after = [];
  split = refl;
  known = freed;
  walks = walks_main;
  refuses = inl (record { base = Variable 0; base_is = refl; none = λ k d l. absurd (omega arith); text = refl });
  place = refl;
})

-- 5 is printed as its digit
pub five : decimal 5 ≡ codes "5"
unfolding digits
five = refl

-- 1 is printed as its digit
pub one : decimal 1 ≡ codes "1"
unfolding digits
one = refl

-- what is left over without a free
pub left_text : atoms_text loaded.origins loaded.atoms ≡ codes "r |-> 5 ** block(r, 1)"
left_text = ap₂ (λ a b. codes "r |-> " ++ a ++ codes " ** " ++ (codes "block(r, " ++ b ++ codes ")")) five one

-- without a free a cell and its block are left: `5:1: leftover r |-> 5 ** block(r, 1)`
pub no_free : Undone (main_of prints) (record { line = 5; col = 1; byte = 0 }) (Leftover (codes "r |-> 5 ** block(r, 1)"))
no_free = inr (record { end = loaded; walks = walks_prints; some_left = λ e. cc; text = ap Leftover (sym left_text); place = refl })
