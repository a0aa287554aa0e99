-- Laws of statements in a row.
use Rattle.std.proofs.Common.{◌≡◌, ◌∙◌, sym, ap, refl, arith, ℕ, ◌+◌, ◌<◌, ◌≤◌, Option, None, List, [], ◌∷◌, ◌++◌, map, drop, length, get_or}
use Rattle.std.proofs.lemmas.List.{drop_all}
use Rattle.c_forms.specs.Plain as written
use Rattle.c_forms.specs.declared.source.Member.{Member}
use Rattle.c_forms.specs.declared.stmt.Load.{Load}
use Rattle.c_forms.specs.declared.stmt.Stmt.{Stmt}
use Rattle.c_rules.specs.Lines.{member_of}
use Rattle.c_rules.specs.Sorts.{Structs, local_of}
use Rattle.c_rules.proofs.Drops.{dropped}
use Rattle.c_syntax.specs.declared.program.CMember.{CMember}
use Rattle.c_syntax.specs.declared.stmt.CStmt.{CStmt}
use Rattle.c_syntax.specs.Plain.{chain, plain_stmt, plain_stmts}
use Rattle.c_syntax.specs.Tree as t
use Rattle.c_reader.specs.Follow.{follow}
use Rattle.c_reader.specs.Standing.{Gathered, begun, block_of, cell_of, loads_of, stmts_of}

-- with nothing behind
pub follow_end : (list : List t.Stmt) → follow list t.end ≡ chain list
follow_end [] = refl
follow_end (s ∷ list) = ap (t.more s) (follow_end list)

-- one statement more
pub follow_push : (list : List t.Stmt) (s : t.Stmt) (rest : t.Stmts) → follow (list ++ (s ∷ [])) rest ≡ follow list (t.more s rest)
follow_push [] s rest = refl
follow_push (x ∷ list) s rest = ap (t.more x) (follow_push list s rest)

-- one that is made
pub follow_made : (list : List CStmt) (s : CStmt) (made : t.Stmt) (rest : t.Stmts) → plain_stmt s ≡ made →
    follow (map plain_stmt (list ++ (s ∷ []))) rest ≡ follow (map plain_stmt list) (t.more made rest)
follow_made [] s made rest e = ap (λ (m : t.Stmt). t.more m rest) e
follow_made (x ∷ list) s made rest e = ap (t.more (plain_stmt x)) (follow_made list s made rest e)

-- where nothing is behind, these are all
pub stmts_end : (list : List CStmt) (behind whole : t.Stmts) → behind ≡ t.end → follow (map plain_stmt list) behind ≡ whole → plain_stmts list ≡ whole
stmts_end list behind whole none all = sym (follow_end (map plain_stmt list)) ∙ ap (follow (map plain_stmt list)) (sym none) ∙ all

-- one load more
pub load_made : (list : List CStmt) (s : CStmt) (loads : List Load) (i : ℕ) (l : Load) → i < length loads → l ≡ get_or loads i l →
    plain_stmt s ≡ t.Load l.kind (local_of l.local) (cell_of (written.plain_cell l.cell)) →
    follow (map plain_stmt (list ++ (s ∷ []))) (loads_of (map written.plain_load (drop (i + 1) loads))) ≡ follow (map plain_stmt list) (loads_of (map written.plain_load (drop i loads)))
load_made list s loads i l below here e =
    follow_made list s _ _ e ∙ ap (λ (ls : List Load). follow (map plain_stmt list) (loads_of (map written.plain_load ls))) (sym (dropped loads i l below here))

pub loads_end : (loads : List Load) (i : ℕ) → length loads ≤ i → loads_of (map written.plain_load (drop i loads)) ≡ t.end
loads_end loads i past = ap (λ (ls : List Load). loads_of (map written.plain_load ls)) (drop_all i loads past)

pub lines_end : (structs : Structs) (g : Option Gathered) (lines : List Stmt) (i : ℕ) → length lines ≤ i → stmts_of structs (written.plain_stmts (drop i lines)) g ≡ t.end
lines_end structs g lines i past = ap (λ (ls : List Stmt). stmts_of structs (written.plain_stmts ls) g) (drop_all i lines past)

-- no member is left
pub none_left : (members : List Member) → length members < 1 → map member_of members ≡ []
none_left [] below = refl
none_left (m ∷ ms) below = absurd (omega arith)

-- so the block is whole
pub block_whole : (g : Gathered) (members : List CMember) (rest : Option Gathered → t.Stmts) → members ≡ [] → t.more (block_of g) (rest None) ≡ begun g members rest
block_whole g [] rest e = refl
block_whole g (m ∷ ms) rest e = cc
