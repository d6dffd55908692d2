use Rattle.std.proofs.Common.{ℕ, List, sym, ◌∙◌}
use Rattle.std.specs.Int.NonZero.{non_zero_usize_get}
use Rattle.std.specs.Option.{option_map}
use Rattle.clru_shares.specs.Refusals.{HasNoRoom, IsSaidOfLines}
use Rattle.clru_text.specs.Lines.{lines_of}
use Rattle.clru_text.proofs.Texts.{whole_read}
use Rattle.clru_web.proofs.Faults.{said_of_split}
use Rattle.clru_web.proofs.split.split_log.Goals as goal

pub returns-in-Err-clause-refused : goal.returns-in-Err-clause-refused
returns-in-Err-clause-refused g c six =
    let options = c.args.options in let sample = option_map non_zero_usize_get options.sample in let budget = non_zero_usize_get options.budget in
    let fault = c.in-Err.fault in let log = c.args.log.now in let left = c.make_split.new.reader.now in (
      fault,
      said_of_split options.idle options.sizes sample budget fault (lines_of log) (sym c.tell_split.ensures.status ∙ six)
          (λ of. whole_read log left (λ input. IsSaidOfLines options.idle options.sizes fault (lines_of input)) (c.in-Err.ensures.refused of))
          (λ size is. whole_read log left (λ input. (name : List ℕ) × HasNoRoom options.sizes options.idle sample budget size (lines_of input) name)
          (c.in-Err.ensures.no_room size is)),
      c.tell_split.ensures.told,
    )
