-- The first breach of a whole text, from what the calls found, each where the one before it ended.
use Rattle.std.proofs.Common.{◌≡◌, ◌∙◌, sym, ap, ℕ, ◌+◌, Bool, Option, List, length, map, flat_map}
use Rattle.std.specs.Prelude.{codes}
use Rattle.std.specs.Option.{is_some}
use Rattle.c_syntax.specs.PreludeText.{prelude}
use Rattle.c_forms.specs.declared.source.Struct.{Struct}
use Rattle.c_forms.specs.declared.source.Head.{Head}
use Rattle.c_forms.specs.declared.source.Starter.{Starter}
use Rattle.c_forms.specs.Tree.{Fun, Source}
use Rattle.c_forms.specs.Text.{struct_text, prototype_text, starter_text, fun_text}
use Rattle.c_rules.specs.Groups.{Taken, breaches, funs_breaches, known_in, nothing, prototypes_breaches, put_all, started, starters_breaches, structs_breaches}
use Rattle.c_rules.specs.Least.{earlier, least}
use Rattle.c_rules.specs.Lines.{Known}
use Rattle.c_rules.specs.Sorts.{unless}
use Rattle.c_rules.proofs.WholeLeast.{whole_least}

-- five places, joined
joined : (A A' B B' C C' D D' E E' : Option ℕ) → A ≡ A' → B ≡ B' → C ≡ C' → D ≡ D' → E ≡ E' →
    earlier (earlier (earlier (earlier A B) C) D) E ≡ earlier (earlier (earlier (earlier A' B') C') D') E'
joined A A' B B' C C' D D' E E' a b c d e =
    ap (λ x. earlier (earlier (earlier (earlier x B) C) D) E) a
    ∙ ap (λ x. earlier (earlier (earlier (earlier A' x) C) D) E) b
    ∙ ap (λ x. earlier (earlier (earlier (earlier A' B') x) D) E) c
    ∙ ap (λ x. earlier (earlier (earlier (earlier A' B') C') x) E) d
    ∙ ap (λ x. earlier (earlier (earlier (earlier A' B') C') D') x) e

-- a text that begins where another ends
behind : {X : Type 0} (f : X → List ℕ) (end at at' : ℕ) (xs ys : List X) → end ≡ at + length (flat_map f xs) → at ≡ at' → xs ≡ ys →
    end ≡ at' + length (flat_map f ys)
behind f end at at' xs ys e a l = e ∙ ap (λ n. n + length (flat_map f xs)) a ∙ ap (λ l. at' + length (flat_map f l)) l

structs_same : (s : Source) (known : Known) (t : Taken) (at : ℕ) (ds : List Struct) (A : Option ℕ) → known ≡ known_in s → t ≡ nothing → at ≡ length prelude → ds ≡ s.structs →
    A ≡ least (structs_breaches known.structs t at ds) → A ≡ least (structs_breaches (known_in s).structs nothing (length prelude) s.structs)
structs_same s known t at ds A k n a l e =
    e
    ∙ ap (λ x. least (structs_breaches x.structs t at ds)) k
    ∙ ap (λ x. least (structs_breaches (known_in s).structs x at ds)) n
    ∙ ap (λ x. least (structs_breaches (known_in s).structs nothing x ds)) a
    ∙ ap (λ x. least (structs_breaches (known_in s).structs nothing (length prelude) x)) l

prototypes_same : (s : Source) (known : Known) (t u : Taken) (at at' : ℕ) (ps : List Head) (fs : List Fun) (B : Option ℕ) → known ≡ known_in s → t ≡ u → at ≡ at' →
    ps ≡ s.prototypes → fs ≡ s.funs → B ≡ least (prototypes_breaches known.structs t at ps fs) → B ≡ least (prototypes_breaches (known_in s).structs u at' s.prototypes s.funs)
prototypes_same s known t u at at' ps fs B k n a l m e =
    e
    ∙ ap (λ x. least (prototypes_breaches x.structs t at ps fs)) k
    ∙ ap (λ x. least (prototypes_breaches (known_in s).structs x at ps fs)) n
    ∙ ap (λ x. least (prototypes_breaches (known_in s).structs u x ps fs)) a
    ∙ ap (λ x. least (prototypes_breaches (known_in s).structs u at' x fs)) l
    ∙ ap (λ x. least (prototypes_breaches (known_in s).structs u at' s.prototypes x)) m

starters_same : (s : Source) (at at' : ℕ) (ss : List Starter) (hs : List Head) (C : Option ℕ) → at ≡ at' → ss ≡ s.starters → hs ≡ started s.funs →
    C ≡ least (starters_breaches at ss hs) → C ≡ least (starters_breaches at' s.starters (started s.funs))
starters_same s at at' ss hs C a l h e =
    e
    ∙ ap (λ x. least (starters_breaches x ss hs)) a
    ∙ ap (λ x. least (starters_breaches at' x hs)) l
    ∙ ap (λ x. least (starters_breaches at' s.starters x)) h

funs_same : (s : Source) (known : Known) (at at' : ℕ) (ps : List Head) (fs : List Fun) (D : Option ℕ) → known ≡ known_in s → at ≡ at' → ps ≡ s.prototypes → fs ≡ s.funs →
    D ≡ least (funs_breaches known (length ps) 0 at fs) → D ≡ least (funs_breaches (known_in s) (length s.prototypes) 0 at' s.funs)
funs_same s known at at' ps fs D k a l m e =
    e
    ∙ ap (λ x. least (funs_breaches x (length ps) 0 at fs)) k
    ∙ ap (λ x. least (funs_breaches (known_in s) (length x) 0 at fs)) l
    ∙ ap (λ x. least (funs_breaches (known_in s) (length s.prototypes) 0 x fs)) a
    ∙ ap (λ x. least (funs_breaches (known_in s) (length s.prototypes) 0 at' x)) m

main_same : (s : Source) (known : Known) (has : Bool) (at at' : ℕ) (E : Option ℕ) → known ≡ known_in s → at ≡ at' → has ≡ is_some (known.heads (codes "main")) →
    E ≡ least (unless has (at + 19)) → E ≡ least (unless (is_some ((known_in s).heads (codes "main"))) (at' + 19))
main_same s known has at at' E k a h e =
    e
    ∙ ap (λ x. least (unless has (x + 19))) a
    ∙ ap (λ x. least (unless x (at' + 19))) (h ∙ ap (λ x. is_some (x.heads (codes "main"))) k)

pub whole_found : (s : Source) (known : Known) (t u : Taken) (ds : List Struct) (ps : List Head) (ss : List Starter) (fs : List Fun) (hs : List Head)
    (first second third fourth last : ℕ) (A B C D E : Option ℕ) (has : Bool) →
    known ≡ known_in s → t ≡ nothing → u ≡ put_all (map (λ d. d.name) ds) t →
    ds ≡ s.structs → ps ≡ s.prototypes → ss ≡ s.starters → fs ≡ s.funs → hs ≡ started s.funs →
    first ≡ length prelude → second ≡ first + length (flat_map struct_text ds) → third ≡ second + length (flat_map prototype_text ps) →
    fourth ≡ third + length (flat_map starter_text ss) → last ≡ fourth + length (flat_map fun_text fs) →
    A ≡ least (structs_breaches known.structs t first ds) → B ≡ least (prototypes_breaches known.structs u second ps fs) →
    C ≡ least (starters_breaches third ss hs) → D ≡ least (funs_breaches known (length ps) 0 fourth fs) → E ≡ least (unless has (last + 19)) →
    has ≡ is_some (known.heads (codes "main")) →
    earlier (earlier (earlier (earlier A B) C) D) E ≡ least (breaches s)
whole_found s known t u ds ps ss fs hs first second third fourth last A B C D E has k n m lds lps lss lfs lhs b1 b2 b3 b4 b5 a b c d e h =
    let first' = length prelude in
    let second' = first' + length (flat_map struct_text s.structs) in
    let third' = second' + length (flat_map prototype_text s.prototypes) in
    let fourth' = third' + length (flat_map starter_text s.starters) in
    let last' = fourth' + length (flat_map fun_text s.funs) in
    let declared = put_all (map (λ d. d.name) s.structs) nothing in
    let named : u ≡ declared = m ∙ ap (λ x. put_all (map (λ d. d.name) ds) x) n ∙ ap (λ x. put_all (map (λ d. d.name) x) nothing) lds in
    let e2 : second ≡ second' = behind struct_text second first first' ds s.structs b2 b1 lds in
    let e3 : third ≡ third' = behind prototype_text third second second' ps s.prototypes b3 e2 lps in
    let e4 : fourth ≡ fourth' = behind starter_text fourth third third' ss s.starters b4 e3 lss in
    let e5 : last ≡ last' = behind fun_text last fourth fourth' fs s.funs b5 e4 lfs in
    joined A (least (structs_breaches (known_in s).structs nothing first' s.structs))
    B (least (prototypes_breaches (known_in s).structs declared second' s.prototypes s.funs))
    C (least (starters_breaches third' s.starters (started s.funs)))
    D (least (funs_breaches (known_in s) (length s.prototypes) 0 fourth' s.funs))
    E (least (unless (is_some ((known_in s).heads (codes "main"))) (last' + 19)))
    (structs_same s known t first ds A k n b1 lds a)
    (prototypes_same s known u declared second second' ps fs B k named e2 lps lfs b)
    (starters_same s third third' ss hs C e3 lss lhs c)
    (funs_same s known fourth fourth' ps fs D k e4 lps lfs d)
    (main_same s known has last last' E k e5 h e)
    ∙ sym (whole_least s)
