use Rattle.std.proofs.Common.{Global, string_bytes, map, take, drop, length, ◌-◌}
use Rattle.pl_words.proofs.RangeLaws.{in_range}
use Rattle.pl_words.proofs.words.read_words.Goals as goal

pub returns-in-Some-clause-in_range : goal.returns-in-Some-clause-in_range
returns-in-Some-clause-in_range c =
    let rest = take (length c.args.words.now - 1) (drop 1 c.args.words.now) in
    in_range c.in-Some.verb (map (string_bytes {Z = Global}) rest) c.behind.result c.behind.ensures
