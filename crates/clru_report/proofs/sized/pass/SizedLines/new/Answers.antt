use Rattle.std.proofs.Common.{[], IsSome, refl, sym, subst}
use Rattle.std.proofs.lemmas.List.Elements.{All-nil}
use Rattle.clru_text.specs.Sizes.{size_of_line, weight_of_line}
use Rattle.clru_report.specs.Passes.{HasFloorPass}
use Rattle.clru_report.proofs.SizedSamples.{added_none}
use Rattle.clru_report.proofs.TakenLines.{asked_floor}
use Rattle.clru_report.proofs.sized.pass.SizedLines.new.Goals as goal

pub returns-clause-taken : goal.returns-clause-taken
returns-clause-taken g c =
    let reused = c.floor_pass_for.result in
    record {
      added = added_none;
      taken = record {
        past = [];
        shown = refl;
        sizes = All-nil (λ line. IsSome (size_of_line line));
        taken = c.new.ensures;
        floored = subst (λ b. HasFloorPass {A = g.row.A.Denot} weight_of_line b [] reused)
            (sym (asked_floor {A = g.row.A.Denot} weight_of_line c.args.floored [] reused (c.floor_pass_for.ensures weight_of_line))) (c.floor_pass_for.ensures weight_of_line);
      };
    }

pub returns-clause-floored : goal.returns-clause-floored
returns-clause-floored g c = asked_floor {A = g.row.A.Denot} weight_of_line c.args.floored [] c.floor_pass_for.result (c.floor_pass_for.ensures weight_of_line)
