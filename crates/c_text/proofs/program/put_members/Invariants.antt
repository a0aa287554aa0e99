use Rattle.std.proofs.Common.{◌≡◌, ◌++◌, [], ◌∷◌, drop, flat_map}
use Rattle.c_syntax.specs.Text.{statement, type_text, member_name}
use Rattle.c_text.proofs.program.put_members.Given as goal

abbrev pub invariant-loop-member : goal.invariant-loop-member
invariant-loop-member l =
    l.out.items ++ flat_map (λ m. statement 1 (type_text m.kind ∷ member_name m.name ∷ [])) (drop l.member-index l.members)
    ≡ l.initial.out.items ++ flat_map (λ m. statement 1 (type_text m.kind ∷ member_name m.name ∷ [])) l.members
