-- A frame for the function that is called.
use Rattle.std.proofs.Common.{◌≡◌, ℕ, suc, ◌≤◌, List, [], Some, Option, Result, Ok, Err}
use Rattle.std.specs.Prelude.{IfOk, vec_capacity}
use Rattle.c_meaning.specs.declared.code.Block.{Block}
use Rattle.c_meaning.specs.declared.thread.Function as rust
use Rattle.c_meaning.specs.declared.thread.Frame as machine
use Rattle.c_meaning.specs.Local.{nest}
use Rattle.c_meaning.specs.Events.{blank, function_numbered}
use Rattle.c_meaning.specs.Machine.{functions_shown, shown_or_none, depth_of, IsSpare, IsCode}
use Rattle.c_meaning.proofs.Threads.{spare_is}

pub spare_told : {E : Type 0} (fs : List rust.Function) (k : ℕ) (function : Option rust.Function) (r : Result machine.Frame E) → ((T : List Block) → shown_or_none T function ≡ function_numbered (functions_shown T fs) (Some k)) → ((T : List Block) → IsCode T fs → nest (shown_or_none T function).body ≤ depth_of function) → IfOk r (λ f. f.spots.items ≡ []) → IfOk r (λ f. suc (depth_of function) ≤ vec_capacity f.spots) → IfOk r (λ f. (T : List Block) → f.env.items ≡ blank (shown_or_none T function)) → IfOk r (λ f. (T : List Block) → IsCode T fs → IsSpare (Some k) (function_numbered (functions_shown T fs) (Some k)) f)
spare_told fs k function (Err e) shown deep empty places env = tt
spare_told fs k function (Ok f) shown deep empty places env = λ T is. spare_is T k (function_numbered (functions_shown T fs) (Some k)) function f (shown T) empty places (deep T is) (env T)
