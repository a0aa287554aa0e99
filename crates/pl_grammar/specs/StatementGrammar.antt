-- The grammar of statements, above that of propositions. Operators' levels end with a statement, so each begins with none
-- open; `depth` levels may be opened in it.
use Rattle.std.specs.Prelude.{ℕ, zero, suc, Bool, true, false, List, ◌∷◌, Option, Some, None}
use Rattle.pl_base.specs.declared.pos.Pos.{Pos}
use Rattle.pl_syntax.specs.declared.expr.Class.TheVariants as c
use Rattle.pl_syntax.specs.declared.stmt.Hint.{Hint}
use Rattle.pl_syntax.specs.declared.stmt.HintTerm.{HintTerm}
use Rattle.pl_lexer.specs.declared.tokens.Token.{Token}
use Rattle.pl_syntax.specs.Plain.{chain}
use Rattle.pl_syntax.specs.Tree as t
use Rattle.pl_syntax.specs.Tree.{Name}
use Rattle.pl_readers.specs.Language.{Language, One, Then, Either, Nothing, Void, Mapped, Many}
use Rattle.pl_grammar.specs.Signs.{name_of, number_of}
use Rattle.pl_grammar.specs.Grammar.{Sign}
use Rattle.pl_grammar.specs.PropGrammar.{Value, Summed, Arguments, CellBehind, Cell, Instance, Binders, Labelled, Prop, WholeProp}

-- "mut" NAME "=" expr ";"
abbrev pub LetMut : ℕ → Pos → Language Token t.Stmt
LetMut depth w = Then (Sign 40) (λ _. (Then (One name_of) (λ x. (Then (Sign 11) (λ _. (Then (Value depth 0) (λ e. (Mapped (λ _. t.LetMut w x.1 e) (Sign 7)))))))))

-- "!" cell ";"
abbrev pub LoadBehind : ℕ → Pos → (Pos × List ℕ) → Bool → Language Token t.Stmt
LoadBehind depth w x is_ghost = Then (Sign 29) (λ _. (Then (Cell depth 0) (λ c. (Mapped (λ _. t.Load w x.1 c is_ghost) (Sign 7)))))

-- "galloc" "(" expr ")" ";"
abbrev pub GallocBehind : ℕ → Pos → (Pos × List ℕ) → Language Token t.Stmt
GallocBehind depth w x = Then (Sign 90) (λ _. (Then (Sign 0) (λ _. (Then (Value depth 0) (λ e. (Then (Sign 1) (λ _. (Mapped (λ _. t.GAlloc w x.1 e) (Sign 7)))))))))

-- "new_invariant" "(" inst ")" ";"
abbrev pub NewInvariantBehind : ℕ → Pos → (Pos × List ℕ) → Language Token t.Stmt
NewInvariantBehind depth w x = Then (Sign 91) (λ _. (Then (Sign 0) (λ _. (Then (Instance depth 0) (λ i. (Then (Sign 1) (λ _. (Mapped (λ _. t.NewInv w x.1 i) (Sign 7)))))))))

-- expr ";"
abbrev pub GhostLetBehind : ℕ → Pos → (Pos × List ℕ) → Language Token t.Stmt
GhostLetBehind depth w x = Then (Value depth 0) (λ e. (Mapped (λ _. t.GLet w x.1 e) (Sign 7)))

-- what stands behind "let" "ghost" NAME "="
abbrev pub GhostMade : ℕ → Pos → (Pos × List ℕ) → Language Token t.Stmt
GhostMade depth w x = Either (LoadBehind depth w x true) (Either (GallocBehind depth w x) (Either (NewInvariantBehind depth w x) (GhostLetBehind depth w x)))

-- "ghost" NAME "=" ..
abbrev pub LetGhost : ℕ → Pos → Language Token t.Stmt
LetGhost depth w = Then (Sign 32) (λ _. (Then (One name_of) (λ x. (Then (Sign 11) (λ _. (GhostMade depth w x))))))

-- "alloc" "(" expr ")" ";"
abbrev pub AllocBehind : ℕ → Pos → (Pos × List ℕ) → Language Token t.Stmt
AllocBehind depth w x = Then (Sign 75) (λ _. (Then (Sign 0) (λ _. (Then (Value depth 0) (λ e. (Then (Sign 1) (λ _. (Mapped (λ _. t.Alloc w x.1 e) (Sign 7)))))))))

-- "alloc_array" "(" expr "," expr ")" ";"
abbrev pub AllocArrayBehind : ℕ → Pos → (Pos × List ℕ) → Language Token t.Stmt
AllocArrayBehind depth w x = Then (Sign 76) (λ _. (Then (Sign 0) (λ _. (Then (Value depth 0) (λ e. (Then (Sign 6) (λ _. (Then (Value depth 0) (λ n. (Then (Sign 1) (λ _. (Mapped (λ _. t.AllocArray w x.1 e n) (Sign 7)))))))))))))

-- "alloc_atomic" "(" expr ")" ";"
abbrev pub AllocAtomicBehind : ℕ → Pos → (Pos × List ℕ) → Language Token t.Stmt
AllocAtomicBehind depth w x = Then (Sign 77) (λ _. (Then (Sign 0) (λ _. (Then (Value depth 0) (λ e. (Then (Sign 1) (λ _. (Mapped (λ _. t.AllocAtomic w x.1 e) (Sign 7)))))))))

-- NAME ":" expr
abbrev pub InitOf : ℕ → Language Token t.Init
InitOf depth = Then (One name_of) (λ f. (Then (Sign 8) (λ _. (Mapped (λ e. record { name = f.1; value = e }) (Value depth 0)))))

-- "," NAME ":" expr
abbrev pub NextInit : ℕ → Language Token t.Init
NextInit depth = Then (Sign 6) (λ _. (InitOf depth))

-- { "," NAME ":" expr }
abbrev pub MoreInits : ℕ → Language Token (List t.Init)
MoreInits depth = Many (NextInit depth)

-- "new" NAME "{" NAME ":" expr { "," NAME ":" expr } "}" ";"
abbrev pub NewBehind : ℕ → Pos → (Pos × List ℕ) → Language Token t.Stmt
NewBehind depth w x = Then (Sign 78) (λ _. (Then (One name_of) (λ s. (Then (Sign 2) (λ _. (Then (InitOf depth) (λ first. (Then (MoreInits depth) (λ more. (Then (Sign 3) (λ _. (Mapped (λ _. t.New w x.1 s.1 (first ∷ more)) (Sign 7)))))))))))))

-- "atomic_read" "(" NAME ")" ";"
abbrev pub AtomicReadBehind : Pos → (Pos × List ℕ) → Language Token t.Stmt
AtomicReadBehind w x = Then (Sign 87) (λ _. (Then (Sign 0) (λ _. (Then (One name_of) (λ c. (Then (Sign 1) (λ _. (Mapped (λ _. t.AtomicRead w x.1 c.1) (Sign 7)))))))))

-- "cas" "(" NAME "," expr "," expr ")" ";"
abbrev pub CasBehind : ℕ → Pos → (Pos × List ℕ) → Language Token t.Stmt
CasBehind depth w x = Then (Sign 89) (λ _. (Then (Sign 0) (λ _. (Then (One name_of) (λ c. (Then (Sign 6) (λ _. (Then (Value depth 0) (λ old. (Then (Sign 6) (λ _. (Then (Value depth 0) (λ new. (Then (Sign 1) (λ _. (Mapped (λ _. t.Cas w x.1 c.1 old new) (Sign 7)))))))))))))))))

-- "new_lock" "(" inst ")" ";"
abbrev pub NewLockBehind : ℕ → Pos → (Pos × List ℕ) → Language Token t.Stmt
NewLockBehind depth w x = Then (Sign 81) (λ _. (Then (Sign 0) (λ _. (Then (Instance depth 0) (λ i. (Then (Sign 1) (λ _. (Mapped (λ _. t.NewLock w x.1 i) (Sign 7)))))))))

-- "read" "(" ")" ";"
abbrev pub ReadBehind : Pos → (Pos × List ℕ) → Language Token t.Stmt
ReadBehind w x = Then (Sign 85) (λ _. (Then (Sign 0) (λ _. (Then (Sign 1) (λ _. (Mapped (λ _. t.Read w x.1) (Sign 7)))))))

-- "(" [ expr { "," expr } ] ")" ";"
abbrev pub CallBehind : ℕ → Pos → (Option Name) → Name → Language Token t.Stmt
CallBehind depth w x f = Then (Sign 0) (λ _. (Then (Arguments depth 0) (λ args. (Mapped (λ _. t.Call w x f args) (Sign 7)))))

-- NAME "(" [ expr { "," expr } ] ")"
abbrev pub Called : ℕ → Pos → Pos × List ℕ → Language Token t.Stmt
Called depth w x = Then (One name_of) (λ f. Then (Sign 0) (λ _. Mapped (λ args. t.Call w (Some x.1) f.1 args) (Arguments depth 0)))

-- a call or an expression, and then ";"
abbrev pub CallOrLet : ℕ → Pos → Pos × List ℕ → Language Token t.Stmt
CallOrLet depth w x = Then (Either (Called depth w x) (Mapped (λ e. t.Let w x.1 e) (Value depth 0))) (λ s. Mapped (λ _. s) (Sign 7))

-- what stands behind "let" NAME "="
abbrev pub Made : ℕ → Pos → (Pos × List ℕ) → Language Token t.Stmt
Made depth w x = Either (LoadBehind depth w x false) (Either (AllocBehind depth w x) (Either (AllocArrayBehind depth w x) (Either (AllocAtomicBehind depth w x) (Either (NewBehind depth w x) (Either (AtomicReadBehind w x) (Either (CasBehind depth w x) (Either (NewLockBehind depth w x) (Either (ReadBehind w x) (CallOrLet depth w x)))))))))

-- NAME "=" ..
abbrev pub LetName : ℕ → Pos → Language Token t.Stmt
LetName depth w = Then (One name_of) (λ x. (Then (Sign 11) (λ _. (Made depth w x))))

-- "let" ..
abbrev pub LetRule : ℕ → Language Token t.Stmt
LetRule depth = Then (Sign 39) (λ w. (Either (LetMut depth w) (Either (LetGhost depth w) (LetName depth w))))

-- cell ":=" expr ";", behind the name of the cell
abbrev pub StoreBehind : ℕ → (Pos × List ℕ) → Language Token t.Stmt
StoreBehind depth x = Then (CellBehind depth 0 x) (λ c. (Then (Sign 12) (λ _. (Then (Value depth 0) (λ e. (Mapped (λ _. t.Store x.0 c e) (Sign 7)))))))

-- NAME "(" .. ";" | cell ":=" expr ";"
abbrev pub NamedStatement : ℕ → Language Token t.Stmt
NamedStatement depth = Then (One name_of) (λ x. (Either (CallBehind depth x.0 None x.1) (StoreBehind depth x)))

-- "free" "(" NAME ")" ";"
abbrev pub FreeRule : Language Token t.Stmt
FreeRule = Then (Sign 79) (λ w. (Then (Sign 0) (λ _. (Then (One name_of) (λ x. (Then (Sign 1) (λ _. (Mapped (λ _. t.Free w x.1) (Sign 7)))))))))

-- "free_array" "(" NAME ")" ";"
abbrev pub FreeArrayRule : Language Token t.Stmt
FreeArrayRule = Then (Sign 80) (λ w. (Then (Sign 0) (λ _. (Then (One name_of) (λ x. (Then (Sign 1) (λ _. (Mapped (λ _. t.FreeArray w x.1) (Sign 7)))))))))

-- "acquire" "(" NAME ")" ";"
abbrev pub AcquireRule : Language Token t.Stmt
AcquireRule = Then (Sign 82) (λ w. (Then (Sign 0) (λ _. (Then (One name_of) (λ x. (Then (Sign 1) (λ _. (Mapped (λ _. t.Acquire w x.1) (Sign 7)))))))))

-- "release" "(" NAME ")" ";"
abbrev pub ReleaseRule : Language Token t.Stmt
ReleaseRule = Then (Sign 83) (λ w. (Then (Sign 0) (λ _. (Then (One name_of) (λ x. (Then (Sign 1) (λ _. (Mapped (λ _. t.Release w x.1) (Sign 7)))))))))

-- "free_lock" "(" NAME ")" ";"
abbrev pub FreeLockRule : Language Token t.Stmt
FreeLockRule = Then (Sign 84) (λ w. (Then (Sign 0) (λ _. (Then (One name_of) (λ x. (Then (Sign 1) (λ _. (Mapped (λ _. t.FreeLock w x.1) (Sign 7)))))))))

-- "atomic_write" "(" NAME "," expr ")" ";"
abbrev pub AtomicWriteRule : ℕ → Language Token t.Stmt
AtomicWriteRule depth = Then (Sign 88) (λ w. (Then (Sign 0) (λ _. (Then (One name_of) (λ c. (Then (Sign 6) (λ _. (Then (Value depth 0) (λ e. (Then (Sign 1) (λ _. (Mapped (λ _. t.AtomicWrite w c.1 e) (Sign 7)))))))))))))

-- "print" "(" expr ")" ";"
abbrev pub PrintRule : ℕ → Language Token t.Stmt
PrintRule depth = Then (Sign 86) (λ w. (Then (Sign 0) (λ _. (Then (Value depth 0) (λ e. (Then (Sign 1) (λ _. (Mapped (λ _. t.Print w e) (Sign 7)))))))))

-- "par" NAME "(" .. ")" "," NAME "(" .. ")" ";"
abbrev pub ParRule : ℕ → Language Token t.Stmt
ParRule depth = Then (Sign 50) (λ w. (Then (One name_of) (λ f. (Then (Sign 0) (λ _. (Then (Arguments depth 0) (λ xs. (Then (Sign 6) (λ _. (Then (One name_of) (λ g. (Then (Sign 0) (λ _. (Then (Arguments depth 0) (λ ys. (Mapped (λ _. t.Par w f.1 xs g.1 ys) (Sign 7)))))))))))))))))

-- "return" expr ";"
abbrev pub ReturnRule : ℕ → Language Token t.Stmt
ReturnRule depth = Then (Sign 49) (λ w. (Then (Value depth 0) (λ e. (Mapped (λ _. t.Return w e) (Sign 7)))))

-- "fold" inst ";"
abbrev pub FoldRule : ℕ → Language Token t.Stmt
FoldRule depth = Then (Sign 63) (λ w. (Then (Instance depth 0) (λ i. (Mapped (λ _. t.Fold w i) (Sign 7)))))

-- "unfold" inst ";"
abbrev pub UnfoldRule : ℕ → Language Token t.Stmt
UnfoldRule depth = Then (Sign 64) (λ w. (Then (Instance depth 0) (λ i. (Mapped (λ _. t.Unfold w i) (Sign 7)))))

-- cell | "slice" "(" expr "," expr "," expr ")"
abbrev pub KeyOf : ℕ → Language Token t.Key
KeyOf depth = Either (Then (Sign 58) (λ _. (Then (Sign 0) (λ _. (Then (Value depth 0) (λ a. (Then (Sign 6) (λ _. (Then (Value depth 0) (λ lo. (Then (Sign 6) (λ _. (Then (Value depth 0) (λ hi. (Mapped (λ _. t.Range a lo hi) (Sign 1)))))))))))))))) (Mapped (λ c. t.Cell c) (Cell depth 0))

-- "share" key ";"
abbrev pub ShareRule : ℕ → Language Token t.Stmt
ShareRule depth = Then (Sign 67) (λ w. (Then (KeyOf depth) (λ k. (Mapped (λ _. t.Share w k) (Sign 7)))))

-- "gather" key ";"
abbrev pub GatherRule : ℕ → Language Token t.Stmt
GatherRule depth = Then (Sign 68) (λ w. (Then (KeyOf depth) (λ k. (Mapped (λ _. t.Gather w k) (Sign 7)))))

-- "split" "slice" "(" expr "," expr "," expr ")" "at" expr ";"
abbrev pub SplitRule : ℕ → Language Token t.Stmt
SplitRule depth = Then (Sign 69) (λ w. (Then (Sign 58) (λ _. (Then (Sign 0) (λ _. (Then (Value depth 0) (λ a. (Then (Sign 6) (λ _. (Then (Value depth 0) (λ lo. (Then (Sign 6) (λ _. (Then (Value depth 0) (λ hi. (Then (Sign 1) (λ _. (Then (Sign 71) (λ _. (Then (Value depth 0) (λ m. (Mapped (λ _. t.Split w a lo hi m) (Sign 7)))))))))))))))))))))))

-- "join" "slice" "(" expr "," expr "," expr "," expr ")" ";"
abbrev pub JoinRule : ℕ → Language Token t.Stmt
JoinRule depth = Then (Sign 70) (λ w. (Then (Sign 58) (λ _. (Then (Sign 0) (λ _. (Then (Value depth 0) (λ a. (Then (Sign 6) (λ _. (Then (Value depth 0) (λ lo. (Then (Sign 6) (λ _. (Then (Value depth 0) (λ m. (Then (Sign 6) (λ _. (Then (Value depth 0) (λ hi. (Then (Sign 1) (λ _. (Mapped (λ _. t.Join w a lo m hi) (Sign 7)))))))))))))))))))))))

-- "focus" NAME "[" sum "]" ";"
abbrev pub FocusRule : ℕ → Language Token t.Stmt
FocusRule depth = Then (Sign 72) (λ w. (Then (One name_of) (λ a. (Then (Sign 4) (λ _. (Then (Summed depth 0) (λ i. (Then (Sign 5) (λ _. (Mapped (λ _. t.Focus w a.1 i) (Sign 7)))))))))))

-- "unfocus" NAME "[" sum "]" ";"
abbrev pub UnfocusRule : ℕ → Language Token t.Stmt
UnfocusRule depth = Then (Sign 73) (λ w. (Then (One name_of) (λ a. (Then (Sign 4) (λ _. (Then (Summed depth 0) (λ i. (Then (Sign 5) (λ _. (Mapped (λ _. t.Unfocus w a.1 i) (Sign 7)))))))))))

-- NUMBER "*" NAME
abbrev pub HintTermOf : Language Token HintTerm
HintTermOf = Then (One number_of) (λ n. (Then (Sign 17) (λ _. (Mapped (λ l. record { times = n.1; label = l.1 }) (One name_of)))))

-- "+" NUMBER "*" NAME
abbrev pub NextHintTerm : Language Token HintTerm
NextHintTerm = Then (Sign 15) (λ _. (HintTermOf))

-- { "+" NUMBER "*" NAME }
abbrev pub MoreHintTerms : Language Token (List HintTerm)
MoreHintTerms = Many (NextHintTerm)

-- [ "by" NUMBER "*" NAME { "+" NUMBER "*" NAME } ]
abbrev pub HintOf : Language Token (Option Hint)
HintOf = Either (Then (Sign 48) (λ _. (Then (HintTermOf) (λ first. (Mapped (λ more. Some (record { terms = first ∷ more })) (MoreHintTerms)))))) (Nothing None)

-- "assert" [ NAME ":" ] expr [ "by" .. ] ";"
abbrev pub AssertRule : ℕ → Language Token t.Stmt
AssertRule depth = Then (Sign 47) (λ w. (Then (Labelled depth 0) (λ e. (Then (HintOf) (λ h. (Mapped (λ _. t.Assert w e.0 e.1 h) (Sign 7)))))))

-- "with" bind { "," bind } "." "assert" prop ";"
abbrev pub WithAssertRule : ℕ → Language Token t.Stmt
WithAssertRule depth = Then (Sign 45) (λ w. (Then (Binders c.Logical) (λ bs. (Then (Sign 9) (λ _. (Then (Sign 47) (λ _. (Then (WholeProp depth 0) (λ p. (Mapped (λ _. t.WithAssert w bs p) (Sign 7)))))))))))

-- "drop_" prop ";"
abbrev pub DropRule : ℕ → Language Token t.Stmt
DropRule depth = Then (Sign 74) (λ w. (Then (WholeProp depth 0) (λ p. (Mapped (λ _. t.Drop w p) (Sign 7)))))

-- [ "ensures" prop ";" ]
abbrev pub StatementEnsures : ℕ → Language Token (Option t.Prop)
StatementEnsures depth = Either (Then (Sign 37) (λ _. (Then (WholeProp depth 0) (λ p. (Mapped (λ _. Some p) (Sign 7)))))) (Nothing None)

-- [ "else" block ]
abbrev pub ElseOf : Language Token t.Braced → Language Token t.Else
ElseOf K = Either (Then (Sign 42) (λ _. (Mapped (λ b. t.else b) K))) (Nothing t.no_else)

-- "if" "(" expr ")" block [ "else" block ] [ "ensures" prop ";" ]
abbrev pub IfRule : ℕ → Language Token t.Braced → Language Token t.Stmt
IfRule depth K = Then (Sign 41) (λ w. (Then (Sign 0) (λ _. (Then (Value depth 0) (λ e. (Then (Sign 1) (λ _. (Then K (λ first. (Then (ElseOf K) (λ second. (Mapped (λ after. t.If w e first second after) (StatementEnsures depth)))))))))))))

-- "let" NAME "=" "!" cell ";"
abbrev pub LoadRule : ℕ → Language Token t.Stmt
LoadRule depth = Then (Sign 39) (λ w. (Then (One name_of) (λ x. (Then (Sign 11) (λ _. (LoadBehind depth w x false))))))

-- { "let" NAME "=" "!" cell ";" }
abbrev pub Loads : ℕ → Language Token (List t.Stmt)
Loads depth = Many (LoadRule depth)

-- "while" "(" { load } expr ")" "invariant" prop block
abbrev pub WhileRule : ℕ → Language Token t.Braced → Language Token t.Stmt
WhileRule depth K = Then (Sign 43) (λ w. (Then (Sign 0) (λ _. (Then (Loads depth) (λ ls. (Then (Value depth 0) (λ e. (Then (Sign 1) (λ _. (Then (Sign 44) (λ _. (Then (WholeProp depth 0) (λ kept. (Mapped (λ body. t.While w (chain ls) e kept body) K))))))))))))))

-- "with_invariants" NAME block [ "ensures" prop ";" ]
abbrev pub WithRule : ℕ → Language Token t.Braced → Language Token t.Stmt
WithRule depth K = Then (Sign 46) (λ w. (Then (One name_of) (λ i. (Then K (λ body. (Mapped (λ after. t.With w i.1 body after) (StatementEnsures depth)))))))

-- "rewrite" prop "as" prop ";", where the levels of the first go on in the second
abbrev pub RewriteRule : ℕ → Language Token t.Stmt
RewriteRule depth =
    Then (Sign 65) (λ w. Then (Prop depth 0) (λ p. Then (Sign 66) (λ _. Then (Prop depth p.used) (λ q. Mapped (λ _. t.Rewrite w p.tree q.tree) (Sign 7)))))

-- a statement without blocks
abbrev pub SimpleStatement : ℕ → Language Token t.Stmt
SimpleStatement depth = Either (LetRule depth) (Either FreeRule (Either FreeArrayRule (Either AcquireRule (Either ReleaseRule (Either FreeLockRule (Either (AtomicWriteRule depth) (Either (PrintRule depth) (Either (ParRule depth) (Either (ReturnRule depth) (Either (FoldRule depth) (Either (UnfoldRule depth) (Either (RewriteRule depth) (Either (ShareRule depth) (Either (GatherRule depth) (Either (SplitRule depth) (Either (JoinRule depth) (Either (FocusRule depth) (Either (UnfocusRule depth) (Either (AssertRule depth) (Either (WithAssertRule depth) (Either (DropRule depth) (NamedStatement depth))))))))))))))))))))))

-- a statement, over blocks K
abbrev pub StatementOf : ℕ → Language Token t.Braced → Language Token t.Stmt
StatementOf depth K = Either (IfRule depth K) (Either (WhileRule depth K) (Either (WithRule depth K) (SimpleStatement depth)))

-- "{" { statement } "}", over blocks of one level less
abbrev pub BlockOf : ℕ → Language Token t.Braced → Language Token t.Braced
BlockOf depth K = Then (Sign 2) (λ _. Then (Many (StatementOf depth K)) (λ ss. Mapped (λ p. t.braces (chain ss) p) (Sign 3)))

-- a block, for which a level has to be left
unfoldable pub Block : ℕ → Language Token t.Braced
Block zero = Void
Block (suc depth) = BlockOf depth (Block depth)
