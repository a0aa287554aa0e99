-- What is printed of a program lexes and parses to it, but for places.
use Rattle.std.proofs.Common.{◌≡◌, ◌∙◌, ℕ, true, List, [], ◌∷◌, ◌++◌, map, flat_map, refl, sym, ap, subst, append_assoc}
use Rattle.std.specs.Prelude.{codes, ⊤}
use Rattle.pl_lexer.specs.declared.tokens.Kind.{Kind}
use Rattle.pl_lexer.specs.declared.tokens.Kind.TheVariants as k
use Rattle.pl_lexer.specs.declared.tokens.Token.{Token}
use Rattle.pl_lexer.specs.Tokens.{IsLexed}
use Rattle.pl_lexer.proofs.Once.{lexed_once}
use Rattle.pl_readers.proofs.Correct.{fine_is}
use Rattle.pl_grammar.proofs.Answered.{only}
use Rattle.pl_readers.specs.Language.{Many}
use Rattle.pl_syntax.specs.Tree.{Decl, Program}
use Rattle.pl_grammar.specs.FileGrammar.{DeclarationOf, File}
use Rattle.pl_print.specs.ProgramText.{decl_text, program_text}
use Rattle.pl_printed.specs.Bare.{bare_decl, bare_program}
use Rattle.pl_printed.specs.Levels.{FitDecls, Fits}
use Rattle.pl_printed.specs.Printable.{Each, IsDecl, IsPrintable}
use Rattle.pl_printed.proofs.Laid.{Piece, Line, kinds, kinds_of}
use Rattle.pl_printed.proofs.Spelled.{bytes}
use Rattle.pl_printed.proofs.Touching.{touching, AreProper}
use Rattle.pl_printed.proofs.Parts.{kinds-append}
use Rattle.pl_printed.proofs.Texts.{bytes-append}
use Rattle.pl_printed.proofs.Takes.{Takes, next, one, mapped, no_texts, texts}
use Rattle.pl_printed.proofs.Members.{proper-append}
use Rattle.pl_printed.proofs.Lexed.{lexed_as}
use Rattle.pl_printed.proofs.Decls.{DeclPrinted, decl}

-- declarations, each with the end of its last line
record AllPrinted (ds : List Decl) : Type 0 where
  pieces : List Piece
  spelled : bytes pieces ≡ flat_map decl_text ds
  proper : AreProper pieces
  apart : touching pieces ≡ true
  means : (depth : ℕ) → FitDecls depth ds → Takes (Many (DeclarationOf depth)) (kinds pieces) (λ ys. map bare_decl ys ≡ map bare_decl ds)

line_front : (ps : List Piece) → touching ps ≡ true → touching (Line ∷ ps) ≡ true
line_front [] h = refl
line_front (q ∷ ps) h = h

one_more : (d : Decl) (ds : List Decl) → DeclPrinted d → AllPrinted ds → AllPrinted (d ∷ ds)
one_more d ds r all =
    let ps = r.shown.parts.pieces in
    record {
      pieces = ps ++ Line ∷ all.pieces;
      spelled =
          bytes-append ps (Line ∷ all.pieces) ∙ ap (λ (z : List ℕ). z ++ (codes "\n" ++ bytes all.pieces)) r.shown.parts.spelled ∙ ap (λ (z : List ℕ). r.text ++ (codes "\n" ++ z)) all.spelled
          ∙ sym (append_assoc r.text (codes "\n") (flat_map decl_text ds)) ∙ ap (λ (z : List ℕ). z ++ flat_map decl_text ds) r.ended;
      proper = proper-append ps (Line ∷ all.pieces) r.shown.parts.proper (tt, all.proper);
      apart = r.shown.parts.neat.apart (Line ∷ all.pieces) (refl, line_front all.pieces all.apart);
      means = λ depth fits. subst (λ (z : List Kind). Takes (Many (DeclarationOf depth)) z (λ ys. map bare_decl ys ≡ map bare_decl (d ∷ ds))) (sym (kinds-append ps (Line ∷ all.pieces)))
          (texts (r.shown.means depth fits.0) (all.means depth fits.1) (λ y ys a b. cc (a, b)));
    }

all_printed : (ds : List Decl) → Each IsDecl ds → AllPrinted ds
all_printed [] h = record { pieces = []; spelled = refl; proper = tt; apart = refl; means = λ depth fits. no_texts refl }
all_printed (d ∷ ds) h = one_more d ds (decl d h.0) (all_printed ds h.1)

kinds_same : (ts : List Token) → kinds_of ts ≡ map (λ t. t.kind) ts
kinds_same [] = refl
kinds_same (t ∷ ts) = ap (λ (z : List Kind). t.kind ∷ z) (kinds_same ts)

file_takes : {ks : List Kind} (p : Program) (depth : ℕ) → Takes (Many (DeclarationOf depth)) ks (λ ys. map bare_decl ys ≡ map bare_decl p.decls) → Takes (File depth) (ks ++ k.End ∷ []) (λ q. bare_program q ≡ bare_program p)
unfolding File bare_program
file_takes p depth m = next m (λ ys a. mapped {P = λ u. ⊤} (one k.End (λ q. tt) (λ q. refl) (λ q. tt)) (λ u b. ap (λ (z : List Decl). let r : Program = record { decls = z } in r) a))

-- What is printed lexes and parses to the same program, but for places.
pub program_printed : (p : Program) → IsPrintable p → Fits 64 p → (tokens : List Token) × (q : Program) × IsLexed (program_text p) tokens × File 64 q tokens × (bare_program q ≡ bare_program p)
unfolding IsPrintable Fits program_text
program_printed p h fits =
    let all = all_printed p.decls h in
    let lexed = lexed_as all.pieces (program_text p) all.proper all.apart all.spelled in
    let read = (file_takes p 64 (all.means 64 fits)).take lexed.tokens (kinds_same lexed.tokens ∙ lexed.same) in
    (lexed.tokens, read.0, lexed.lexed, read.1, read.2)

-- tokens have one program
one_program : (ts : List Token) (p q : Program) → File 64 p ts → File 64 q ts → p ≡ q
one_program ts p q a b = fine_is p q (sym (only ts p a) ∙ only ts q b)

-- Whatever program is read of what is printed is the same but for places.
pub only_program : (p : Program) (tokens : List Token) (q : Program) → IsPrintable p → Fits 64 p → IsLexed (program_text p) tokens → File 64 q tokens → bare_program q ≡ bare_program p
only_program p tokens q h fits lexed read =
    let w = program_printed p h fits in
    let same : w.0 ≡ tokens = lexed_once (program_text p) w.0 tokens w.2 lexed in
    let is : w.1 ≡ q = one_program tokens w.1 q (subst (λ (z : List Token). File 64 w.1 z) same w.3) read in
    subst (λ (z : Program). bare_program z ≡ bare_program p) is w.4
