-- What a thread stands before while others do events.
use Rattle.std.proofs.Common.{◌≡◌, ℕ, Bool, true, false, List, [], ◌∷◌, None, Result, Ok, Err, refl, sym, ap, ◌∙◌, subst, length}
use Rattle.pl_resource.specs.Faults.{chain}
use Rattle.pl_resource.specs.Heap.{load_of, store_of, cas_of, free_of}
use Rattle.pl_resource.specs.LockTable.{set_of, end_of}
use Rattle.pl_resource.specs.declared.value.Fault.{Fault}
use Rattle.pl_resource.specs.declared.value.Value.{Value}
use Rattle.pl_resource.specs.declared.value.Value.TheVariants as value
use Rattle.c_meaning.specs.declared.action.Touch.{Touch}
use Rattle.c_meaning.specs.declared.action.Next.{Next}
use Rattle.c_meaning.specs.declared.action.Next.TheVariants as next
use Rattle.c_meaning.specs.Tree.{Stmts, Let, If, While, Check, Do, end, more, Function, Basic, Load, Store, Cas, Make, Free, NewLock, Acquire, Release, Read, Print, Call, Fork, Join, Return}
use Rattle.c_meaning.specs.Values.{Env, eval, local_of}
use Rattle.c_meaning.specs.Effects.{World, Own, Effect, offset_of, base_of, cell_at, eval_number, lock_of_local, effect_of}
use Rattle.c_meaning.specs.Touches.{is_atomic, touched}
use Rattle.c_meaning.specs.Touching.{told, freeing, touching}
use Rattle.c_meaning.specs.Events.{State, Thread, Done, event_in, next_by, next_from, atomic_at, event_of_frame, own_of, called, blank}
use Rattle.c_meaning.specs.Steps.{race_of}
use Rattle.c_meaning.proofs.Touched.{touching_is, next_told}

-- two looks that are both good see the same
record Agree (r q : Result Touch Fault) : Type 0 where
  agrees : (a b : Touch) → r ≡ Ok a → q ≡ Ok b → a ≡ b

ok_same : (a b : Touch) → ◌≡◌ {A = Result Touch Fault} (Ok a) (Ok b) → a ≡ b
ok_same a b e = cc e

same : (r : Result Touch Fault) → Agree r r
same r = record { agrees = λ a b h g. ok_same a b (sym h ∙ g) }

through : {A : Type 0} (x : Result A Fault) (f g : A → Result Touch Fault) → ((a : A) → Agree (f a) (g a)) → Agree (chain x f) (chain x g)
through (Err e) f g k = record { agrees = λ a b h l. cc h }
through (Ok x) f g k = k x

checked : (x y : Result (Unit {0}) Fault) (t : Touch) → Agree (chain x (λ u. Ok t)) (chain y (λ u. Ok t))
checked (Err e) y t = record { agrees = λ a b h l. cc h }
checked (Ok u) (Err e) t = record { agrees = λ a b h l. cc l }
checked (Ok u) (Ok v) t = same (Ok t)

freeing_agrees : (w z : World) (v : Value) → Agree (freeing w v) (freeing z v)
freeing_agrees w z (value.Block b) = checked (told (free_of w.blocks b)) (told (free_of z.blocks b)) _
freeing_agrees w z (value.Lock k) = checked (told (end_of w.locks k)) (told (end_of z.locks k)) _
freeing_agrees w z value.Null = same _
freeing_agrees w z (value.Int n) = same _
freeing_agrees w z (value.Truth b) = same _

touching_agrees : (b : Basic) (own : Own) (w z : World) → Agree (touching b own w) (touching b own z)
touching_agrees (Load x place atomic) own w z = through (offset_of own.env place) _ _ (λ at. through (cell_at own.env (base_of place) at) _ _ (λ cell. checked (told (load_of w.blocks cell atomic)) (told (load_of z.blocks cell atomic)) _))
touching_agrees (Store place e atomic) own w z = through (offset_of own.env place) _ _ (λ at. through (eval own.env e) _ _ (λ v. through (cell_at own.env (base_of place) at) _ _ (λ cell. checked (told (store_of w.blocks cell atomic v)) (told (store_of z.blocks cell atomic v)) _)))
touching_agrees (Cas x base old new) own w z = through (eval_number own.env old) _ _ (λ a. through (eval_number own.env new) _ _ (λ b. through (cell_at own.env base (record { index = 0; field = 0 })) _ _ (λ cell. checked (told (cas_of w.blocks cell a b)) (told (cas_of z.blocks cell a b)) _)))
touching_agrees (Make x atomic first count) own w z = same _
touching_agrees (Free base) own w z = through (local_of own.env base) _ _ (freeing_agrees w z)
touching_agrees (NewLock x) own w z = same _
touching_agrees (Acquire lock) own w z = through (lock_of_local own.env lock) _ _ (λ k. checked (told (set_of w.locks k true)) (told (set_of z.locks k true)) _)
touching_agrees (Release lock) own w z = through (lock_of_local own.env lock) _ _ (λ k. checked (told (set_of w.locks k false)) (told (set_of z.locks k false)) _)
touching_agrees (Read x) own w z = same _
touching_agrees (Print e) own w z = same _
touching_agrees (Call into f args) own w z = same _
touching_agrees (Fork f args) own w z = same _
touching_agrees Join own w z = same _
touching_agrees (Return e) own w z = same _

-- two actions that a thread stands before touch the same
pub record Alike (x y : Next) : Type 0 where
  pub alike : (a b : Touch) → x ≡ next.Act a → y ≡ next.Act b → a ≡ b

act_same : (a b : Touch) → next.Act a ≡ next.Act b → a ≡ b
act_same a b e = cc e

itself : (x : Next) → Alike x x
itself x = record { alike = λ a b h g. act_same a b (sym h ∙ g) }

told_alike : (r q : Result Touch Fault) → Agree r q → Alike (next_told r) (next_told q)
told_alike (Err e) q k = record { alike = λ a b h g. cc h }
told_alike (Ok x) (Err e) k = record { alike = λ a b h g. cc g }
told_alike (Ok x) (Ok y) k = record { alike = λ a b h g. sym (act_same x a h) ∙ (k.agrees x y refl refl ∙ act_same y b g) }

do_told : (a : Bool) (r : Result Effect Fault) (rest : Stmts) → next_by a (chain r (λ e. Ok (record { effect = e; left = rest }))) ≡ next_told (touched a r)
do_told a (Err f) rest = refl
do_told a (Ok e) rest = refl

do_is : (n : ℕ) (locals : Env) (b : Basic) (rest : Stmts) (own : Own) (w : World) → next_by (is_atomic b) (event_in n locals (more (Do b) rest) own w) ≡ next_told (touching b own w)
do_is n locals b rest own w = do_told (is_atomic b) (effect_of n locals b own w) rest ∙ ap next_told (sym (touching_is n locals b own w))

event_alike : (n m : ℕ) (locals : Env) (l : Stmts) (own : Own) (w z : World) → Alike (next_by (atomic_at l) (event_in n locals l own w)) (next_by (atomic_at l) (event_in m locals l own z))
event_alike n m locals end own w z = itself _
event_alike n m locals (more (Do b) rest) own w z =
    subst (λ x. Alike x (next_by (is_atomic b) (event_in m locals (more (Do b) rest) own z))) (sym (do_is n locals b rest own w))
    (subst (Alike (next_told (touching b own w))) (sym (do_is m locals b rest own z)) (told_alike (touching b own w) (touching b own z) (touching_agrees b own w z)))
event_alike n m locals (more (While l e b) rest) own w z = itself _
event_alike n m locals (more (Check l e b) rest) own w z = itself _
event_alike n m locals (more (Let x e) rest) own w z = itself _
event_alike n m locals (more (If e a b) rest) own w z = itself _

pub thread_alike : (F : List Function) (s z : State) (fs : Thread) → Alike (next_from F s fs) (next_from F z fs)
thread_alike F s z [] = itself _
thread_alike F s z (f ∷ fs) = event_alike (length s.threads) (length z.threads) (blank (called F f.left)) f.left (own_of f) s.world z.world

-- a thread that has ended has ended, whatever the others do
ended_still : (F : List Function) (s z : State) (fs : Thread) (t : Touch) → next_from F s fs ≡ next.Ended → next_from F z fs ≡ next.Act t → ⊥
ended_still F s z [] t h g = cc g
ended_still F s z (f ∷ fs) t h g = not_ended (atomic_at f.left) (event_of_frame F (length s.threads) f s.world) h
  where
    not_ended : (a : Bool) (r : Result Done Fault) → next_by a r ≡ next.Ended → ⊥
    not_ended a (Err e) h = cc h
    not_ended a (Ok d) h = cc h

act_still : (F : List Function) (s z : State) (fs : Thread) (t : Touch) → ((g : Fault) → next_from F s fs ≡ next.Fault g → ⊥) → next_from F z fs ≡ next.Act t → next_from F s fs ≡ next.Act t
act_still F s z fs t sound h = by (next_from F s fs) refl
  where
    by : (x : Next) → next_from F s fs ≡ x → next_from F s fs ≡ next.Act t
    by (next.Act a) e = e ∙ ap next.Act ((thread_alike F s z fs).alike a t e h)
    by (next.Fault g) e = absurd (sound g e)
    by next.Ended e = absurd (ended_still F s z fs t e h)

pub race_still : (F : List Function) (s z : State) (fs gs : Thread) → ((g : Fault) → next_from F s fs ≡ next.Fault g → ⊥) → ((g : Fault) → next_from F s gs ≡ next.Fault g → ⊥) → race_of (next_from F s fs) (next_from F s gs) ≡ None → race_of (next_from F z fs) (next_from F z gs) ≡ None
race_still F s z fs gs sound clean none = by (next_from F z fs) (next_from F z gs) refl refl
  where
    by : (x y : Next) → next_from F z fs ≡ x → next_from F z gs ≡ y → race_of (next_from F z fs) (next_from F z gs) ≡ None
    by (next.Act a) (next.Act b) h g =
        let first : next_from F s fs ≡ next.Act a = act_still F s z fs a sound h in
        let second : next_from F s gs ≡ next.Act b = act_still F s z gs b clean g in
        (ap (λ q. race_of q (next_from F z gs)) (h ∙ sym first) ∙ ap (race_of (next_from F s fs)) (g ∙ sym second)) ∙ none
    by (next.Act a) (next.Fault f) h g = ap (λ q. race_of q (next_from F z gs)) h ∙ ap (race_of (next.Act a)) g
    by (next.Act a) next.Ended h g = ap (λ q. race_of q (next_from F z gs)) h ∙ ap (race_of (next.Act a)) g
    by (next.Fault f) y h g = ap (λ q. race_of q (next_from F z gs)) h
    by next.Ended y h g = ap (λ q. race_of q (next_from F z gs)) h
