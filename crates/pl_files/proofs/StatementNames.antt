-- The names of a statement of proper tokens are identifiers within the limits.
use Rattle.std.proofs.Common.{◌≡◌, ℕ, zero, suc, Bool, true, false, List, [], ◌∷◌, refl, sym, ap, subst}
use Rattle.std.specs.List.{AllByRecursion}
use Rattle.pl_base.specs.declared.pos.Pos.{Pos}
use Rattle.pl_lexer.specs.declared.tokens.Token.{Token}
use Rattle.pl_lexer.specs.Proper.{IsName}
use Rattle.pl_readers.specs.Language.{Language}
use Rattle.pl_syntax.specs.Plain.{chain}
use Rattle.pl_syntax.specs.Tree as t
use Rattle.pl_syntax.specs.Tree.{Name, CellExpr, Stmt, listed, list_of}
use Rattle.pl_grammar.specs.PropGrammar.{CellBehind, Cell}
use Rattle.pl_grammar.specs.StatementGrammar.{LoadBehind, GhostMade, LetGhost, AllocBehind, CallOrLet, Made, LetName, LetMut, LetRule, FreeRule, PrintRule, NamedStatement, SimpleStatement, StatementOf, BlockOf, Block}
use Rattle.pl_files.specs.Names.{stmt_names}
use Rattle.pl_files.proofs.Proper.{Gives, IsNamed, name_is, nothing_is, either_is, then_is, behind, made, many_is, void_is}
use Rattle.pl_files.proofs.ExprNames.{value_gives}

-- the names that stand in it
abbrev pub NamedStmt : Stmt → Type 0
NamedStmt s = AllByRecursion IsName (stmt_names s)

-- the name of a whole cell
abbrev pub Based : CellExpr → Type 0
Based (t.Whole base) = IsName base
Based _ = Unit {0}

cell_behind : (depth used : ℕ) (x : Pos × List ℕ) → IsNamed x → Gives (CellBehind depth used x) Based
cell_behind depth used x h = either_is (either_is (behind (λ _. behind (λ i. made (λ _. tt)))) (behind (λ _. made (λ f. tt)))) (nothing_is (t.Whole x.1) h)

cell_gives : (depth used : ℕ) → Gives (Cell depth used) Based
cell_gives depth used = then_is name_is (λ x h. cell_behind depth used x h)

loaded : (p : Pos) (x : Name) (c : CellExpr) (is_ghost : Bool) → IsName x → Based c → NamedStmt (t.Load p x c is_ghost)
loaded p x (t.Whole base) is_ghost h b = (h, (b, tt))
loaded p x (t.At base index) is_ghost h b = tt
loaded p x (t.Field base field) is_ghost h b = tt

load_behind : (depth : ℕ) (w : Pos) (x : Pos × List ℕ) (is_ghost : Bool) → IsNamed x → Gives (LoadBehind depth w x is_ghost) NamedStmt
load_behind depth w x is_ghost h = behind (λ _. then_is (cell_gives depth 0) (λ c b. made (λ _. loaded w x.1 c is_ghost h b)))

ghost_made : (depth : ℕ) (w : Pos) (x : Pos × List ℕ) → IsNamed x → Gives (GhostMade depth w x) NamedStmt
ghost_made depth w x h =
    either_is (load_behind depth w x true h)
    (either_is (behind (λ _. behind (λ _. behind (λ e. behind (λ _. made (λ _. tt))))))
    (either_is (behind (λ _. behind (λ _. behind (λ i. behind (λ _. made (λ _. tt))))))
    (behind (λ e. made (λ _. tt)))))

let_ghost : (depth : ℕ) (w : Pos) → Gives (LetGhost depth w) NamedStmt
let_ghost depth w = behind (λ _. then_is name_is (λ x h. behind (λ _. ghost_made depth w x h)))

alloc_behind : (depth : ℕ) (w : Pos) (x : Pos × List ℕ) → IsNamed x → Gives (AllocBehind depth w x) NamedStmt
alloc_behind depth w x h = behind (λ _. behind (λ _. then_is (value_gives depth 0) (λ e names. behind (λ _. made (λ _. (h, names))))))

call_or_let : (depth : ℕ) (w : Pos) (x : Pos × List ℕ) → Gives (CallOrLet depth w x) NamedStmt
call_or_let depth w x =
    then_is
    (either_is (behind (λ f. behind (λ _. made (λ args. tt)))) (made (λ e. tt)))
    (λ s h. made (λ _. h))

made_gives : (depth : ℕ) (w : Pos) (x : Pos × List ℕ) → IsNamed x → Gives (Made depth w x) NamedStmt
made_gives depth w x h =
    either_is (load_behind depth w x false h)
    (either_is (alloc_behind depth w x h)
    (either_is (behind (λ _. behind (λ _. behind (λ e. behind (λ _. behind (λ n. behind (λ _. made (λ _. tt))))))))
    (either_is (behind (λ _. behind (λ _. behind (λ e. behind (λ _. made (λ _. tt))))))
    (either_is (behind (λ _. behind (λ s. behind (λ _. behind (λ first. behind (λ more. behind (λ _. made (λ _. tt))))))))
    (either_is (behind (λ _. behind (λ _. behind (λ c. behind (λ _. made (λ _. tt))))))
    (either_is (behind (λ _. behind (λ _. behind (λ c. behind (λ _. behind (λ old. behind (λ _. behind (λ new. behind (λ _. made (λ _. tt))))))))))
    (either_is (behind (λ _. behind (λ _. behind (λ i. behind (λ _. made (λ _. tt))))))
    (either_is (behind (λ _. behind (λ _. behind (λ _. made (λ _. tt)))))
    (call_or_let depth w x)))))))))

let_name : (depth : ℕ) (w : Pos) → Gives (LetName depth w) NamedStmt
let_name depth w = then_is name_is (λ x h. behind (λ _. made_gives depth w x h))

let_mut : (depth : ℕ) (w : Pos) → Gives (LetMut depth w) NamedStmt
let_mut depth w = behind (λ _. behind (λ x. behind (λ _. behind (λ e. made (λ _. tt)))))

let_rule : (depth : ℕ) → Gives (LetRule depth) NamedStmt
let_rule depth = behind (λ w. either_is (let_mut depth w) (either_is (let_ghost depth w) (let_name depth w)))

free_rule : Gives FreeRule NamedStmt
free_rule = behind (λ w. behind (λ _. then_is name_is (λ x h. behind (λ _. made (λ _. (h, tt))))))

print_rule : (depth : ℕ) → Gives (PrintRule depth) NamedStmt
print_rule depth = behind (λ w. behind (λ _. then_is (value_gives depth 0) (λ e names. behind (λ _. made (λ _. names)))))

named_statement : (depth : ℕ) → Gives (NamedStatement depth) NamedStmt
named_statement depth = behind (λ x. either_is (behind (λ _. behind (λ args. made (λ _. tt)))) (behind (λ c. behind (λ _. behind (λ e. made (λ _. tt))))))

simple_statement : (depth : ℕ) → Gives (SimpleStatement depth) NamedStmt
simple_statement depth =
    either_is (let_rule depth)
    (either_is free_rule
    (either_is (behind (λ w. behind (λ _. behind (λ x. behind (λ _. made (λ _. tt))))))
    (either_is (behind (λ w. behind (λ _. behind (λ x. behind (λ _. made (λ _. tt))))))
    (either_is (behind (λ w. behind (λ _. behind (λ x. behind (λ _. made (λ _. tt))))))
    (either_is (behind (λ w. behind (λ _. behind (λ x. behind (λ _. made (λ _. tt))))))
    (either_is (behind (λ w. behind (λ _. behind (λ c. behind (λ _. behind (λ e. behind (λ _. made (λ _. tt))))))))
    (either_is (print_rule depth)
    (either_is (behind (λ w. behind (λ f. behind (λ _. behind (λ xs. behind (λ _. behind (λ g. behind (λ _. behind (λ ys. made (λ _. tt))))))))))
    (either_is (behind (λ w. behind (λ e. made (λ _. tt))))
    (either_is (behind (λ w. behind (λ i. made (λ _. tt))))
    (either_is (behind (λ w. behind (λ i. made (λ _. tt))))
    (either_is (behind (λ w. behind (λ p. behind (λ _. behind (λ q. made (λ _. tt))))))
    (either_is (behind (λ w. behind (λ k. made (λ _. tt))))
    (either_is (behind (λ w. behind (λ k. made (λ _. tt))))
    (either_is (behind (λ w. behind (λ _. behind (λ _. behind (λ a. behind (λ _. behind (λ lo. behind (λ _. behind (λ hi. behind (λ _. behind (λ _. behind (λ m. made (λ _. tt)))))))))))))
    (either_is (behind (λ w. behind (λ _. behind (λ _. behind (λ a. behind (λ _. behind (λ lo. behind (λ _. behind (λ m. behind (λ _. behind (λ hi. behind (λ _. made (λ _. tt)))))))))))))
    (either_is (behind (λ w. behind (λ a. behind (λ _. behind (λ i. behind (λ _. made (λ _. tt)))))))
    (either_is (behind (λ w. behind (λ a. behind (λ _. behind (λ i. behind (λ _. made (λ _. tt)))))))
    (either_is (behind (λ w. behind (λ e. behind (λ h. made (λ _. tt)))))
    (either_is (behind (λ w. behind (λ bs. behind (λ _. behind (λ _. behind (λ p. made (λ _. tt)))))))
    (either_is (behind (λ w. behind (λ p. made (λ _. tt))))
    (named_statement depth))))))))))))))))))))))

statement_of : (depth : ℕ) (K : Language Token t.Braced) → Gives (StatementOf depth K) NamedStmt
statement_of depth K =
    either_is (behind (λ w. behind (λ _. behind (λ e. behind (λ _. behind (λ first. behind (λ second. made (λ after. tt))))))))
    (either_is (behind (λ w. behind (λ _. behind (λ ls. behind (λ e. behind (λ _. behind (λ _. behind (λ kept. made (λ body. tt)))))))))
    (either_is (behind (λ w. behind (λ i. behind (λ body. made (λ after. tt)))))
    (simple_statement depth)))

-- ---- blocks

-- the names that stand in a block's own statements
abbrev pub NamedBlock : t.Braced → Type 0
NamedBlock b = AllByRecursion NamedStmt (list_of b)

listed_chain : (ss : List Stmt) → listed (chain ss) ≡ ss
listed_chain [] = refl
listed_chain (s ∷ ss) = ap (λ (r : List Stmt). s ∷ r) (listed_chain ss)

block_of : (depth : ℕ) (K : Language Token t.Braced) → Gives (BlockOf depth K) NamedBlock
block_of depth K = behind (λ _. then_is (many_is (statement_of depth K)) (λ ss h. made (λ p. subst (AllByRecursion NamedStmt) (sym (listed_chain ss)) h)))

pub block_gives : (depth : ℕ) → Gives (Block depth) NamedBlock
unfolding Block
block_gives zero = void_is
block_gives (suc depth) = block_of depth (Block depth)
