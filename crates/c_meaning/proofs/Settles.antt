-- Running the statements that need no event, one at a time.
use Rattle.std.proofs.Common.{◌≡◌, ℕ, ◌+◌, ◌<◌, arith, true, false, Some, None, Ok, Err, refl, sym, ap, ◌∙◌}
use Rattle.c_meaning.specs.Tree.{Term, Stmts, Let, If, While, Check, Do, end, more, both}
use Rattle.c_meaning.specs.Values.{Env, Outcome, eval}
use Rattle.c_meaning.specs.Local.{Settled, fell, stood, single, go_on, back_to, branch, bound, settle_one, settle, rested, size, Local, chosen, let_to, local}
use Rattle.c_meaning.proofs.Lefts.{both_assoc}
use Rattle.pl_resource.specs.declared.value.Value.TheVariants as value

pub settle_both : (a b : Stmts) (env : Env) → settle (both a b) env ≡ go_on (settle a env) b (settle b)
settle_both end b env = refl
settle_both (more s a) b env = go (λ now. settle_both a b now) (settle_one s env)
  where
    go : ((now : Env) → settle (both a b) now ≡ go_on (settle a now) b (settle b)) → (r : Settled) → go_on r (both a b) (settle (both a b)) ≡ go_on (go_on r a (settle a)) b (settle b)
    go ih (fell now) = ih now
    go ih (stood now l) = ap (stood now) (sym (both_assoc l a b))

pub size_both : (a b : Stmts) → size (both a b) ≡ size a + size b
size_both end b = omega arith
size_both (more s a) b = omega (arith, size_both a b)

-- one step changes nothing of where the thread will stand, and there is less to run
pub record Steps (l : Stmts) (env : Env) (l' : Stmts) (env' : Env) : Type 0 where
  pub same : settle l env ≡ settle l' env'
  pub less : size l' < size l

pub record Stands (l : Stmts) (env : Env) : Type 0 where
  pub is : rested (settle l env) ≡ (env, l)

abbrev pub Told : Stmts → Env → Local → Type 0
Told l env None = Stands l env
Told l env (Some r) = Steps l env r.0 r.1

let_told : (x : ℕ) (e : Term) (rest : Stmts) (env : Env) (r : Outcome) → eval env e ≡ r → Told (more (Let x e) rest) env (let_to r env x rest)
let_told x e rest env (Err f) h = record { is = ap (λ z. rested (go_on (bound z env x (stood env (single (Let x e)))) rest (settle rest))) h }
let_told x e rest env (Ok v) h = record { same = ap (λ z. go_on (bound z env x (stood env (single (Let x e)))) rest (settle rest)) h; less = omega arith }

if_told : (e : Term) (a b rest : Stmts) (env : Env) (r : Outcome) → eval env e ≡ r → Told (more (If e a b) rest) env (chosen r (Some (both a rest, env)) (Some (both b rest, env)))
if_told e a b rest env (Ok (value.Truth true)) h =
    record { same = ap (λ z. go_on (branch z (settle a env) (settle b env) (stood env (single (If e a b)))) rest (settle rest)) h ∙ sym (settle_both a rest env); less = omega (arith, size_both a rest) }
if_told e a b rest env (Ok (value.Truth false)) h =
    record { same = ap (λ z. go_on (branch z (settle a env) (settle b env) (stood env (single (If e a b)))) rest (settle rest)) h ∙ sym (settle_both b rest env); less = omega (arith, size_both b rest) }
if_told e a b rest env (Err f) h = record { is = ap (λ z. rested (go_on (branch z (settle a env) (settle b env) (stood env (single (If e a b)))) rest (settle rest))) h }
if_told e a b rest env (Ok (value.Int n)) h = record { is = ap (λ z. rested (go_on (branch z (settle a env) (settle b env) (stood env (single (If e a b)))) rest (settle rest))) h }
if_told e a b rest env (Ok value.Null) h = record { is = ap (λ z. rested (go_on (branch z (settle a env) (settle b env) (stood env (single (If e a b)))) rest (settle rest))) h }
if_told e a b rest env (Ok (value.Block n)) h = record { is = ap (λ z. rested (go_on (branch z (settle a env) (settle b env) (stood env (single (If e a b)))) rest (settle rest))) h }
if_told e a b rest env (Ok (value.Lock n)) h = record { is = ap (λ z. rested (go_on (branch z (settle a env) (settle b env) (stood env (single (If e a b)))) rest (settle rest))) h }

-- a loop's body, and then the loop again
loop_back : (l : Stmts) (e : Term) (b rest : Stmts) (r : Settled) → go_on (back_to (While l e b) r) rest (settle rest) ≡ go_on r (more (While l e b) rest) (settle (more (While l e b) rest))
loop_back l e b rest (fell env) = refl
loop_back l e b rest (stood env left) = ap (stood env) (both_assoc left (single (While l e b)) rest)

check_told : (l : Stmts) (e : Term) (b rest : Stmts) (env : Env) (r : Outcome) → eval env e ≡ r → Told (more (Check l e b) rest) env (chosen r (Some (both b (more (While l e b) rest), env)) (Some (rest, env)))
check_told l e b rest env (Ok (value.Truth true)) h =
    record { same = ap (λ z. go_on (branch z (back_to (While l e b) (settle b env)) (fell env) (stood env (single (Check l e b)))) rest (settle rest)) h ∙ (loop_back l e b rest (settle b env) ∙ sym (settle_both b (more (While l e b) rest) env)); less = omega (arith, size_both b (more (While l e b) rest)) }
check_told l e b rest env (Ok (value.Truth false)) h =
    record { same = ap (λ z. go_on (branch z (back_to (While l e b) (settle b env)) (fell env) (stood env (single (Check l e b)))) rest (settle rest)) h; less = omega arith }
check_told l e b rest env (Err f) h = record { is = ap (λ z. rested (go_on (branch z (back_to (While l e b) (settle b env)) (fell env) (stood env (single (Check l e b)))) rest (settle rest))) h }
check_told l e b rest env (Ok (value.Int n)) h = record { is = ap (λ z. rested (go_on (branch z (back_to (While l e b) (settle b env)) (fell env) (stood env (single (Check l e b)))) rest (settle rest))) h }
check_told l e b rest env (Ok value.Null) h = record { is = ap (λ z. rested (go_on (branch z (back_to (While l e b) (settle b env)) (fell env) (stood env (single (Check l e b)))) rest (settle rest))) h }
check_told l e b rest env (Ok (value.Block n)) h = record { is = ap (λ z. rested (go_on (branch z (back_to (While l e b) (settle b env)) (fell env) (stood env (single (Check l e b)))) rest (settle rest))) h }
check_told l e b rest env (Ok (value.Lock n)) h = record { is = ap (λ z. rested (go_on (branch z (back_to (While l e b) (settle b env)) (fell env) (stood env (single (Check l e b)))) rest (settle rest))) h }

pub local_told : (l : Stmts) (env : Env) → Told l env (local l env)
local_told end env = record { is = refl }
local_told (more (Let x e) rest) env = let_told x e rest env (eval env e) refl
local_told (more (If e a b) rest) env = if_told e a b rest env (eval env e) refl
local_told (more (Check l e b) rest) env = check_told l e b rest env (eval env e) refl
local_told (more (Do b) rest) env = record { is = refl }
local_told (more (While l e b) rest) env = record { is = refl }
