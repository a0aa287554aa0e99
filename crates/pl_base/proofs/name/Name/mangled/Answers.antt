use Rattle.std.proofs.Common.{◌≡◌, flat_map, sym, ap, ◌∙◌, map-id}
use Rattle.std.specs.Str.{chars, IsUtf8}
use Rattle.std.proofs.lemmas.Str.{IsUtf8-string_bytes}
use Rattle.std.proofs.lemmas.Iterator.{YieldsList-from_chars}
use Rattle.std.proofs.lemmas.Iterator.Consumers.{YieldsList-end}
use Rattle.pl_base.specs.Mangling.{mangled, mangled_char}
use Rattle.pl_base.proofs.ManglingLaws.{mangled_apart}
use Rattle.pl_base.proofs.name.Name.mangled.Goals as goal

utf8 : (c : goal.In-None) → IsUtf8 c.args.self.now
utf8 c = rw (← c.self.view_is) (IsUtf8-string_bytes c.self.inside.text)

all : (c : goal.In-None) → c.loop-c.text.items ≡ mangled (chars c.args.self.now)
all c =
    let end = YieldsList-end (YieldsList-from_chars c.args.self.now (utf8 c) cc) c.loop-c.yielded _ c.loop-c.yielded_by _ _ c.in-None.is c.next.ensures.steps in
    c.loop-c.invariant ∙ ap (flat_map mangled_char) (sym (map-id c.loop-c.yielded) ∙ end.0)

pub returns-clause-text : goal.returns-clause-text
returns-clause-text c = all c

pub returns-clause-apart : goal.returns-clause-apart
returns-clause-apart c = λ other is same. mangled_apart other c.args.self.now is (utf8 c) (same ∙ all c)
