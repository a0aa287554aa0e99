use Rattle.std.proofs.Common.{ℕ, List, ◌++◌, length, ap, ap₂, ◌∙◌}
use Rattle.std.specs.Prelude.{flat_map}
use Rattle.c_syntax.specs.Plain.{plain_program}
use Rattle.pl_top.specs.Lines.{end_line}
use Rattle.pl_top.specs.Runs.{printed_line}
use Rattle.pl_top.proofs.FaultWords.{end_has_line}
use Rattle.pl_top.proofs.Prints.{text_printed}
use Rattle.pl_top.proofs.run.run.Goals as goal

pub returns-clause-done : goal.returns-clause-done
returns-clause-done g c =
    let es = c.in_ok-end.field-0.history.events in
    let ends = c.in_ok-end.field-0.end in
    let run = c.in_ok-end.ensures.run in
    record {
      ends = ends;
      run = run;
      ruled = c.in_ok-end.ensures.one_worker;
      status = c.status_of.ensures;
      text = c.in_ok-extend_from_slice.ensures.items
          ∙ ap₂ (λ (x y : List ℕ). x ++ y)
          (text_printed (plain_program c.args.program.now) c.args.numbers.now es run.last run.replays c.in_ok-text.text.items (c.in_ok-text.ensures ∙ ap (flat_map printed_line) c.as_slice-events.ensures))
          (c.as_slice.ensures.value ∙ c.in_ok-line.ensures ∙ ap (λ (n : ℕ). end_line n ends) (ap length c.as_slice-events.ensures));
    }

pub end_line-requires : goal.end_line-requires
end_line-requires g c =
    let run = c.in_ok-end.ensures.run in
    end_has_line (plain_program c.args.program.now) c.args.opts.now.steps run.last (length c.in_ok-end.field-0.history.events) c.in_ok-end.field-0.end run.ends
