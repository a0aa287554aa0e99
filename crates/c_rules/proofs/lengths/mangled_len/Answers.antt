use Rattle.std.proofs.Common.{◌≡◌, ◌<◌, ◌^◌, ◌-◌, ℕ, length, flat_map, min, sym, ap, ◌∙◌, map-id, arith}
use Rattle.std.proofs.lemmas.Iterator.{YieldsList-from_chars}
use Rattle.std.proofs.lemmas.Iterator.Consumers.{YieldsList-end}
use Rattle.pl_base.specs.Mangling.{mangled_char}
use Rattle.c_syntax.specs.Text.{mangled_name}
use Rattle.c_rules.proofs.lengths.mangled_len.Goals as goal

small : (a n m : ℕ) → a ≡ min n (2 ^ 64 - 1) → n ≡ m → m < 2 ^ 32 → a ≡ m
small a n m e h lt = omega arith

pub returns : goal.returns
returns c =
    let end = YieldsList-end (YieldsList-from_chars c.text.result.now c.text.utf8 cc) c.loop-c.yielded _ c.loop-c.yielded_by _ _ c.in-None.is c.next.ensures.steps in
    small c.loop-c.len (length (flat_map mangled_char c.loop-c.yielded)) (length (mangled_name c.args.name.now)) c.loop-c.invariant
    (ap (λ t. length (flat_map mangled_char t)) (sym (map-id c.loop-c.yielded) ∙ end.0) ∙ ap (λ t. length (mangled_name t)) c.text.ensures)
    c.requires
