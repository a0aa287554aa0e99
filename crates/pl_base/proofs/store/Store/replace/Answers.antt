use Rattle.std.proofs.Common.{List, ℕ, ◌∷◌, [], ◌++◌, Some, ap, sym, ◌∙◌, subst, set}
use Rattle.std.specs.Prelude.{position}
use Rattle.std.specs.Str.{bytes_eq}
use Rattle.pl_base.specs.declared.store.HostFile.{HostFile}
use Rattle.pl_base.specs.Kept.{told}
use Rattle.pl_base.specs.Outside.{Puts}
use Rattle.pl_base.proofs.Places.{put_at, put_behind}
use Rattle.pl_base.proofs.store.Store.replace.Goals as goal

pub returns-in-Some-clause-puts : goal.returns-in-Some-clause-puts
returns-in-Some-clause-puts c =
    let fs = c.args.self.now.files.items in
    let now : List ℕ = c.of.result in
    let g : HostFile = record { name = c.index_mut.result.now.name; bytes = now } in
    let P : List ℕ → Type 0 = λ bs. Puts (Some (told fs)) (Some (told (set fs c.in-Some.i g))) c.args.name.now bs in
    subst P (c.of.ensures ∙ c.in_ok-copy.ensures.items)
    (put_at c.args.name.now fs c.in-Some.i c.index_mut.result.now g
    (ap (position (λ f. bytes_eq f.name c.args.name.now)) (sym c.as_slice.ensures.value) ∙ sym c.place_of.ensures ∙ c.in-Some.is)
    (ap (λ (f : HostFile). f.name) c.index_mut.ensures.value))

pub returns-in_ok-push-in-None-clause-puts : goal.returns-in_ok-push-in-None-clause-puts
returns-in_ok-push-in-None-clause-puts c =
    let fs = c.args.self.now.files.items in
    let now : List ℕ = c.of-bytes.result in
    let g : HostFile = record { name = c.in_ok-name-in-None.name; bytes = now } in
    let P : List ℕ → Type 0 = λ bs. Puts (Some (told fs)) (Some (told (fs ++ g ∷ []))) c.args.name.now bs in
    let Q : List HostFile → Type 0 = λ files. Puts (Some (told fs)) (Some (told files)) c.args.name.now c.args.bytes.now in
    subst Q (sym c.in_ok-push-in-None.ensures.items)
    (subst P (c.of-bytes.ensures ∙ c.in_ok-copy.ensures.items)
    (put_behind c.args.name.now fs g
    (ap (position (λ f. bytes_eq f.name c.args.name.now)) (sym c.as_slice.ensures.value) ∙ sym c.place_of.ensures ∙ c.in-None.is)
    c.in_ok-name-in-None.ensures))
