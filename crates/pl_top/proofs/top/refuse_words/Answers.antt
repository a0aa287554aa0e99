use Rattle.std.proofs.Common.{◌∙◌, [], refl}
use Rattle.pl_top.specs.Calls.{put_whole}
use Rattle.pl_top.proofs.Delivered.{all_of, refused_part}
use Rattle.pl_top.proofs.top.refuse_words.Goals as goal

pub returns-in_default-clause-part : goal.returns-in_default-clause-part
returns-in_default-clause-part g c = put_whole [] refl refl refl

pub returns-in-Ok-write_text-clause-part : goal.returns-in-Ok-write_text-clause-part
returns-in-Ok-write_text-clause-part g c =
    refused_part c.args.kind c.args.place _ _ _ _ c.as_slice.result.now (c.as_slice.ensures.value ∙ c.in-Ok.ensures) c.write_text.ensures.same.0 (all_of _ _ _ c.in-Ok-write_text.ensures.whole)

pub returns-in-Err-In-clause-part : goal.returns-in-Err-In-clause-part
returns-in-Err-In-clause-part g c = refused_part c.args.kind c.args.place _ _ _ _ c.as_slice.result.now (c.as_slice.ensures.value ∙ c.in-Ok.ensures) c.write_text.ensures.same.0 c.in-Err-In.ensures.part

pub returns-in-Err-Out-clause-part : goal.returns-in-Err-Out-clause-part
returns-in-Err-Out-clause-part g c = refused_part c.args.kind c.args.place _ _ _ _ c.as_slice.result.now (c.as_slice.ensures.value ∙ c.in-Ok.ensures) c.write_text.ensures.same.0 c.in-Err-Out.ensures.part

pub returns-clause-part : goal.returns-clause-part
returns-clause-part g c = refused_part c.args.kind c.args.place _ _ _ _ c.as_slice.result.now (c.as_slice.ensures.value ∙ c.in-Ok.ensures) c.write_text.ensures.same.0 c.in-Err-Memory.ensures.part
