-- What is written of the program for which a text without breaches stands is what that text has.
use Rattle.std.proofs.Common.{◌≡◌, ◌∙◌, ap, refl, filter, List, [], ◌∷◌, map}
use Rattle.c_syntax.specs.Text as text
use Rattle.c_syntax.specs.Tree as t
use Rattle.c_forms.specs.declared.source.Head.{Head}
use Rattle.c_forms.specs.declared.source.Member.{Member}
use Rattle.c_forms.specs.declared.source.Starter.{Starter}
use Rattle.c_forms.specs.declared.source.Struct.{Struct}
use Rattle.c_forms.specs.Forms.{IsForm}
use Rattle.c_forms.specs.Tree as w
use Rattle.c_rules.specs.Groups.{breaches, funs_starts, known_in, struct_of}
use Rattle.c_rules.specs.Lines.{member_of}
use Rattle.c_reader.specs.Standing.{program_of}
use Rattle.c_reader.proofs.Missing.{all_started}
use Rattle.c_reader.proofs.Starts.{filter_same, funs_starts_same}
use Rattle.c_reader.proofs.Threads.{starters_again}
use Rattle.c_reader.proofs.Whole.{Whole, whole}
use Rattle.c_reader.proofs.Written as written

-- ---- structures

members_again : (ms : List Member) → map written.member (map member_of ms) ≡ ms
members_again [] = refl
members_again (m ∷ ms) = ap (λ xs. m ∷ xs) (members_again ms)

structs_again : (ds : List Struct) → map written.struct (map struct_of ds) ≡ ds
structs_again [] = refl
structs_again (d ∷ ds) =
    ap (λ (ms : List Member). record { name = d.name; members = ms } ∷ map written.struct (map struct_of ds)) (members_again d.members) ∙ ap (λ xs. d ∷ xs) (structs_again ds)

-- ---- prototypes and starters

heads_of : (fs : List w.Fun) (gs : List t.Fun) → map written.fun gs ≡ fs → map written.head gs ≡ map (λ f. f.head) fs
heads_of fs gs e = each gs ∙ ap (map (λ (f : w.Fun). f.head)) e
  where
    each : (gs : List t.Fun) → map written.head gs ≡ map (λ f. f.head) (map written.fun gs)
    each [] = refl
    each (g ∷ gs) = ap (λ xs. written.head g ∷ xs) (each gs)

starters : (s : w.Source) → Whole s → map written.starter (filter (text.is_started (program_of s).funs) (program_of s).funs) ≡ s.starters
starters s c =
    let structs = (known_in s).structs in
    let lines = all_started (known_in s) c.lines.1 0 c.lines.0 s.funs c.lines.2 in
    ap (map written.starter) (filter_same structs (funs_starts s.funs) (text.funs_starts (program_of s).funs) s.funs (funs_starts_same structs s.funs))
    ∙ starters_again structs c.starters.0 s.starters s.funs c.starters.1 lines

-- ---- the whole

pub rewritten : (s : w.Source) → IsForm s → breaches s ≡ [] → written.source (program_of s) ≡ s
rewritten s form h =
    let c = whole s h in
    let p = program_of s in
    let a = structs_again s.structs in
    let b : map written.head p.funs ≡ s.prototypes = heads_of s.funs p.funs c.funs.text ∙ c.funs.prototypes in
    let d = starters s c in
    ap (λ (xs : List Struct). record { structs = xs; prototypes = map written.head p.funs; starters = map written.starter (filter (text.is_started p.funs) p.funs); funs = map written.fun p.funs }) a
    ∙ ap (λ (xs : List Head). record { structs = s.structs; prototypes = xs; starters = map written.starter (filter (text.is_started p.funs) p.funs); funs = map written.fun p.funs }) b
    ∙ ap (λ (xs : List Starter). record { structs = s.structs; prototypes = s.prototypes; starters = xs; funs = map written.fun p.funs }) d
    ∙ ap (λ (xs : List w.Fun). record { structs = s.structs; prototypes = s.prototypes; starters = s.starters; funs = xs }) c.funs.text
