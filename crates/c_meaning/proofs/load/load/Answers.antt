use Rattle.std.proofs.Common.{◌≡◌, ◌+◌, map, drop, sym, ap, ◌∙◌, subst, drop_of_length-le, length, ◌<◌, ◌≤◌}
use Rattle.std.proofs.Math.ListN.{get_or}
use Rattle.c_meaning.specs.Loads.{Loaded}
use Rattle.c_meaning.proofs.Loading.{Loading, as_loaded, loads_one, loads_code, loads_all, functions_are, fun_in}
use Rattle.c_meaning.proofs.load.load.Goals as goal

pub loop-f-preserved : goal.loop-f-preserved
loop-f-preserved c =
    let p = c.args.program.now in
    let g = as_loaded p.structs p.funs in
    let T = c.loop-f.code.items in
    let U = c.load_function.new.code.items in
    let f = c.in_ok-function.function in
    let k = subst (λ z. Loaded T U f (as_loaded z p.funs c.f-item.result)) c.as_slice-structs.ensures (subst (λ z. Loaded T U f (as_loaded c.as_slice-structs.result.now z c.f-item.result)) c.as_slice-funs.ensures c.in_ok-function.ensures) in
    let l = subst (λ z. Loading T c.loop-f.functions.items (map g p.funs) z) (fun_in g p.funs c.loop-f.f-index c.f-item.result (subst (λ z. c.f-item.result ≡ get_or z c.loop-f.f-index c.f-item.result) c.as_slice-funs.ensures c.f-item.is) (subst (λ z. c.loop-f.f-index < length z) c.as_slice-funs.ensures c.loop-f-test.true)) c.loop-f.invariant in
    loads_one T U c.loop-f.functions.items c.push.new.self.items f (map g p.funs) (map g (drop (c.loop-f.f-index + 1) p.funs)) (g c.f-item.result) l k c.in_ok-push.ensures.items

pub returns-clause-code : goal.returns-clause-code
returns-clause-code c = loads_code c.loop-f.code.items c.loop-f.functions.items _ _ c.loop-f.invariant

pub returns-clause-functions : goal.returns-clause-functions
returns-clause-functions c =
    let p = c.args.program.now in
    let g = as_loaded p.structs p.funs in
    loads_all c.loop-f.code.items c.loop-f.functions.items _ _ c.loop-f.invariant (ap (map g) (drop_of_length-le p.funs {i = c.loop-f.f-index} (subst (λ z. length z ≤ c.loop-f.f-index) c.as_slice-funs.ensures c.loop-f-test.false))) ∙ sym (functions_are p)
