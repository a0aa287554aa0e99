use Rattle.std.proofs.Common.{◌≡◌, ◌∙◌, ◌+◌, ◌-◌, ◌<◌, ◌≤◌, ◌∷◌, sym, ap, length, map, drop, arith}
use Rattle.pl_syntax.specs.Plain.{plain_decl}
use Rattle.pl_syntax.specs.Known.{with_fun, funs_of}
use Rattle.pl_types.proofs.Drops.{dropped}
use Rattle.pl_types.proofs.known_names.fun_table.Goals as goal

pub loop-i-preserved : goal.loop-i-preserved
loop-i-preserved c =
    let list = c.args.list.now in
    let i = c.loop-i.i in
    let x = c.index-list-i.result in
    let positive : 0 < i = c.loop-i-test.true in
    let inside : i ≤ length list = c.loop-i.invariant.place in
    let lt : i - 1 < length list = omega arith in
    let back : i - 1 + 1 ≡ i = omega arith in
    let le : i - 1 ≤ length list = omega arith in
    let parts : drop (i - 1) list ≡ x ∷ drop i list = dropped list (i - 1) x lt c.index-list-i.is ∙ ap (λ k. x ∷ drop k list) back in
    record {
      place = le;
      table = c.in_ok-put_fun.ensures
          ∙ ap (with_fun (i - 1) (plain_decl x)) (c.loop-i.invariant.table ∙ ap (λ k. funs_of k (map plain_decl (drop i list))) (sym back))
          ∙ ap (λ xs. funs_of (i - 1) (map plain_decl xs)) (sym parts);
    }
