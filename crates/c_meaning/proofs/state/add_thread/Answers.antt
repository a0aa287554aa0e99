use Rattle.std.proofs.Common.{◌++◌, ◌∷◌, [], sym, ap, ◌∙◌, subst}
use Rattle.c_meaning.specs.States.{ThreadAdded}
use Rattle.c_meaning.proofs.state.add_thread.Goals as goal

pub returns-in-Some-clause-added : goal.returns-in-Some-clause-added
returns-in-Some-clause-added c =
    subst (ThreadAdded c.args.threads.now.items c.push_reserved-in-Some.new.self.items) (sym c.in-Some.is)
    (record { frames = c.push_reserved.new.self }, c.push_reserved-in-Some.ensures.items, c.push_reserved.ensures.items ∙ ap (λ z. z ++ c.in-Some.frame ∷ []) (ap (λ z. z.items) c.replace-frames.ensures.value ∙ c.requires.empty))
