-- Laws of statements with blocks: what is found in their parts is what is found in them.
use Rattle.std.proofs.Common.{◌≡◌, ◌∙◌, sym, ap, refl, Some, option_copied, ◌-◌, ◌&&◌, ℕ, Bool, Option, None, List, ◌++◌, length, drop}
use Rattle.std.specs.Prelude.{Result, Ok, Err, IfOk}
use Rattle.std.specs.Borrow.{Bor}
use Rattle.pl_base.specs.declared.pos.Pos.{Pos}
use Rattle.pl_syntax.specs.declared.expr.Sort.{Sort}
use Rattle.pl_syntax.specs.declared.expr.Sort.TheVariants as sort
use Rattle.pl_syntax.specs.Tree as t
use Rattle.pl_syntax.specs.Tree.{Name, Expr, Prop, Stmts, Braced, Else}
use Rattle.pl_syntax.specs.declared.rules.Breach.{Breach}
use Rattle.pl_syntax.specs.declared.rules.Spot.{Spot}
use Rattle.pl_syntax.specs.declared.rules.Inside.TheVariants.{Direct}
use Rattle.pl_syntax.specs.Breaches.{earlier, least}
use Rattle.pl_syntax.specs.ExprRules.{sorted, wanted}
use Rattle.pl_types.specs.Held.{lent}
use Rattle.pl_syntax.specs.Known.{Known}
use Rattle.pl_syntax.specs.PropRules.{after_breaches, prop_breaches}
use Rattle.pl_syntax.specs.Scopes.{Scope}
use Rattle.pl_syntax.specs.StmtRules.{condition, under, move_to, real, real_breaches, block_breaches, is_ghost_block, is_ghost_else, behind_all, behind_block, stmt_breaches, stmts_breaches, braced_breaches, else_breaches}
use Rattle.pl_types.proofs.Leasts.{least_append}
use Rattle.pl_types.proofs.ScopeLaws.{left_loop}

-- from what holds of an answer
pub if_ok_to : {X E : Type 0} (P Q : X → Type 0) (r : Result X E) → ((x : X) → P x → Q x) → IfOk r P → IfOk r Q
if_ok_to P Q (Ok x) f h = f x h
if_ok_to P Q (Err e) f h = h

pub lent_copied : {X : Type 0} (o : Option (Bor X)) → lent o ≡ option_copied o
lent_copied None = refl
lent_copied (Some b) = refl

least_three : (a b c : List Breach) → least ((a ++ b) ++ c) ≡ earlier (earlier (least a) (least b)) (least c)
least_three a b c = least_append (a ++ b) c ∙ ap (λ r. earlier r (least c)) (least_append a b)

least_four : (a b c d : List Breach) → least (((a ++ b) ++ c) ++ d) ≡ earlier (earlier (earlier (least a) (least b)) (least c)) (least d)
least_four a b c d = least_append ((a ++ b) ++ c) d ∙ ap (λ r. earlier r (least d)) (least_three a b c)

least_five : (a b c d e : List Breach) → least ((((a ++ b) ++ c) ++ d) ++ e) ≡ earlier (earlier (earlier (earlier (least a) (least b)) (least c)) (least d)) (least e)
least_five a b c d e = least_append (((a ++ b) ++ c) ++ d) e ∙ ap (λ r. earlier r (least e)) (least_four a b c d)

-- an `if`, whose arms were looked at in the scopes `scope` and `mid`, and what follows in `now`
pub choice_found : (known : Known) (spot u v : Spot) (scope mid now : Scope) (place : Pos) (e : Expr) (first : Braced) (second : Else) (after : Option Prop) (last : Option Sort)
    (one two r : Option Breach) (g h : Bool) → u ≡ under spot → v ≡ under spot → mid ≡ scope → now ≡ scope →
    one ≡ least (braced_breaches known u scope first) → two ≡ least (else_breaches known v mid second) → g ≡ is_ghost_block known first scope → h ≡ is_ghost_else known second mid →
    r ≡ earlier (earlier (earlier (least (wanted (condition spot (g && h)) now (sorted sort.Bool) e)) one) two) (least (after_breaches known now after)) →
    r ≡ least (stmt_breaches known spot last scope (t.If place e first second after))
choice_found known spot u v scope mid now place e first second after last one two r g h uu vv mm nn o w gg hh rr =
    let G = is_ghost_block known first scope in
    let H = is_ghost_else known second scope in
    let A = wanted (condition spot (G && H)) scope (sorted sort.Bool) e in
    let B = braced_breaches known (under spot) scope first in
    let C = else_breaches known (under spot) scope second in
    let D = after_breaches known scope after in
    let a : least (wanted (condition spot (g && h)) now (sorted sort.Bool) e) ≡ least A =
    ap (λ x. least (wanted (condition spot (x && h)) now (sorted sort.Bool) e)) gg
    ∙ ap (λ x. least (wanted (condition spot (G && x)) now (sorted sort.Bool) e)) (hh ∙ ap (is_ghost_else known second) mm)
    ∙ ap (λ s. least (wanted (condition spot (G && H)) s (sorted sort.Bool) e)) nn in
    let b : one ≡ least B = o ∙ ap (λ x. least (braced_breaches known x scope first)) uu in
    let c : two ≡ least C = w ∙ ap (λ x. least (else_breaches known x mid second)) vv ∙ ap (λ s. least (else_breaches known (under spot) s second)) mm in
    let d : least (after_breaches known now after) ≡ least D = ap (λ s. least (after_breaches known s after)) nn in
    rr ∙ ap (λ x. earlier (earlier (earlier x one) two) (least (after_breaches known now after))) a
    ∙ ap (λ x. earlier (earlier (earlier (least A) x) two) (least (after_breaches known now after))) b
    ∙ ap (λ x. earlier (earlier (earlier (least A) (least B)) x) (least (after_breaches known now after))) c
    ∙ ap (earlier (earlier (earlier (least A) (least B)) (least C))) d
    ∙ sym (least_four A B C D)

-- behind a loop the names are those before it
pub loop_left : (known : Known) (loads : Stmts) (body : Braced) (scope mid after left : Scope) (mark : ℕ) → mark ≡ length scope → mid ≡ behind_all known loads scope →
    after ≡ behind_block known body mid → left ≡ drop (length after - mark) after → left ≡ scope
loop_left known loads body scope mid after left mark k m a l =
    l ∙ ap (λ n. drop (length after - n) after) k ∙ ap (λ s. drop (length s - length scope) s) (a ∙ ap (behind_block known body) m) ∙ left_loop known loads body scope

-- a loop, whose head was looked at in `scope`, its body in `mid`, and its invariant in `left`
pub loop_found : (known : Known) (spot u v : Spot) (scope mid left : Scope) (place : Pos) (loads : Stmts) (e : Expr) (kept : Prop) (body : Braced) (last : Option Sort)
    (first head test again inner r : Option Breach) → u ≡ under spot → v ≡ under spot → mid ≡ behind_all known loads scope → left ≡ scope →
    first ≡ least (real_breaches spot place) → head ≡ least (stmts_breaches known u None scope loads) → test ≡ least (real mid (sorted sort.Bool) e) →
    again ≡ least (prop_breaches known left kept) → inner ≡ least (braced_breaches known v mid body) →
    r ≡ earlier (earlier (earlier (earlier first head) test) again) inner →
    r ≡ least (stmt_breaches known spot last scope (t.While place loads e kept body))
loop_found known spot u v scope mid left place loads e kept body last first head test again inner r uu vv mm ll f hd ts ag ir rr =
    let behind = behind_all known loads scope in
    let A = real_breaches spot place in
    let B = stmts_breaches known (under spot) None scope loads in
    let C = real behind (sorted sort.Bool) e in
    let D = prop_breaches known scope kept in
    let E = braced_breaches known (under spot) behind body in
    let b : head ≡ least B = hd ∙ ap (λ x. least (stmts_breaches known x None scope loads)) uu in
    let c : test ≡ least C = ts ∙ ap (λ s. least (real s (sorted sort.Bool) e)) mm in
    let d : again ≡ least D = ag ∙ ap (λ s. least (prop_breaches known s kept)) ll in
    let i : inner ≡ least E = ir ∙ ap (λ x. least (braced_breaches known x mid body)) vv ∙ ap (λ s. least (braced_breaches known (under spot) s body)) mm in
    rr ∙ ap (λ x. earlier (earlier (earlier (earlier x head) test) again) inner) f
    ∙ ap (λ x. earlier (earlier (earlier (earlier (least A) x) test) again) inner) b
    ∙ ap (λ x. earlier (earlier (earlier (earlier (least A) (least B)) x) again) inner) c
    ∙ ap (λ x. earlier (earlier (earlier (earlier (least A) (least B)) (least C)) x) inner) d
    ∙ ap (earlier (earlier (earlier (earlier (least A) (least B)) (least C)) (least D))) i
    ∙ sym (least_five A B C D E)

-- a block that opens an invariant, and what follows in `mid`
pub opened_found : (known : Known) (spot u : Spot) (scope mid : Scope) (place : Pos) (name : Name) (body : Braced) (after : Option Prop) (last : Option Sort)
    (opened inner following r : Option Breach) → u ≡ move_to Direct spot → mid ≡ behind_block known body scope →
    opened ≡ least (block_breaches spot scope place name body) → inner ≡ least (braced_breaches known u scope body) → following ≡ least (after_breaches known mid after) →
    r ≡ earlier (earlier opened inner) following →
    r ≡ least (stmt_breaches known spot last scope (t.With place name body after))
opened_found known spot u scope mid place name body after last opened inner following r uu mm o i f rr =
    let A = block_breaches spot scope place name body in
    let B = braced_breaches known (move_to Direct spot) scope body in
    let C = after_breaches known (behind_block known body scope) after in
    let b : inner ≡ least B = i ∙ ap (λ x. least (braced_breaches known x scope body)) uu in
    let c : following ≡ least C = f ∙ ap (λ s. least (after_breaches known s after)) mm in
    rr ∙ ap (λ x. earlier (earlier x inner) following) o
    ∙ ap (λ x. earlier (earlier (least A) x) following) b
    ∙ ap (earlier (earlier (least A) (least B))) c
    ∙ sym (least_three A B C)
