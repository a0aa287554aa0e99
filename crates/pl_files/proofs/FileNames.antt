-- The names of a file's program are identifiers within the limits.
use Rattle.std.proofs.Common.{ℕ, Bool, true, false, List, [], ◌∷◌, ◌++◌, flat_map}
use Rattle.std.specs.List.{AllByRecursion}
use Rattle.pl_lexer.specs.declared.tokens.Token.{Token}
use Rattle.pl_lexer.specs.Proper.{IsName}
use Rattle.pl_lexer.proofs.Meanings.{lexed_proper}
use Rattle.pl_readers.specs.Language.{Language}
use Rattle.pl_syntax.specs.Tree as t
use Rattle.pl_syntax.specs.Tree.{Name, Decl, Program}
use Rattle.pl_grammar.specs.FileGrammar.{FunctionBehind, DeclarationOf, File}
use Rattle.pl_grammar.specs.StatementGrammar.{Block}
use Rattle.pl_files.specs.Files.{IsFile}
use Rattle.pl_files.specs.Names.{stmt_names, decl_names, program_names}
use Rattle.pl_files.proofs.Proper.{Gives, name_is, either_is, then_is, behind, mapped_is, made, many_is}
use Rattle.pl_files.proofs.StatementNames.{NamedBlock, block_gives}

all_append : {X : Type 0} (P : X → Type 0) (xs ys : List X) → AllByRecursion P xs → AllByRecursion P ys → AllByRecursion P (xs ++ ys)
all_append P [] ys h i = i
all_append P (x ∷ xs) ys h i = (h.0, all_append P xs ys h.1 i)

all_flat : {X A : Type 0} (P : A → Type 0) (f : X → List A) (xs : List X) → AllByRecursion (λ x. AllByRecursion P (f x)) xs → AllByRecursion P (flat_map f xs)
all_flat P f [] h = tt
all_flat P f (x ∷ xs) h = all_append P (f x) (flat_map f xs) h.0 (all_flat P f xs h.1)

-- the names that stand in a declaration
abbrev pub NamedDecl : Decl → Type 0
NamedDecl d = AllByRecursion IsName (decl_names d)

function_behind : (depth : ℕ) (K : Language Token t.Braced) (is_ghost : Bool) → Gives K NamedBlock → Gives (FunctionBehind depth K is_ghost) NamedDecl
function_behind depth K is_ghost p =
    then_is name_is (λ x h. behind (λ _. behind (λ ps. behind (λ o. behind (λ before. behind (λ r. behind (λ after. behind (λ m.
    mapped_is p (λ b names. (h, all_flat IsName stmt_names (t.list_of b) names))))))))))

declaration_of : (depth : ℕ) → Gives (DeclarationOf depth) NamedDecl
declaration_of depth =
    either_is (behind (λ _. behind (λ x. behind (λ _. behind (λ bs. made (λ _. tt))))))
    (either_is (behind (λ _. behind (λ x. behind (λ _. behind (λ ps. behind (λ _. behind (λ b. made (λ _. tt))))))))
    (either_is
    (behind (λ _. behind (λ _. function_behind depth (Block depth) true (block_gives depth))))
    (behind (λ _. function_behind depth (Block depth) false (block_gives depth)))))

abbrev pub NamedProgram : Program → Type 0
NamedProgram p = AllByRecursion IsName (program_names p)

pub file_gives : (depth : ℕ) → Gives (File depth) NamedProgram
unfolding File
file_gives depth = then_is (many_is (declaration_of depth)) (λ ds h. made (λ _. all_flat IsName decl_names ds h))

pub names_proper : (bytes : List ℕ) (p : Program) → IsFile bytes p → AllByRecursion IsName (program_names p)
names_proper bytes p f = (file_gives 64).is p f.tokens f.derived (lexed_proper bytes f.tokens f.lexed)
