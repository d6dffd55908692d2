use Rattle.std.proofs.Common.{length, refl, ap, ◌∙◌, subst}
use Rattle.std.proofs.lemmas.Map.Entries.{length-keys_of}
use Rattle.std.specs.Int.NonZero.{non_zero_usize_get}
use Rattle.std.specs.Option.{option_map}
use Rattle.clru_shares.specs.Classes.{of_class}
use Rattle.clru_shares.specs.LinePasses.{IsCurveBy}
use Rattle.clru_shares.specs.Passes.{name_of}
use Rattle.clru_shares.specs.Sampled.{kept_in}
use Rattle.clru_shares.specs.Sizes.{size_in}
use Rattle.clru_shares.specs.Times.{limit_of}
use Rattle.clru_shares.proofs.SampleLemmas.{class_keys, class_kept}
use Rattle.clru_shares.proofs.Timeless.{timeless_class, timeless_kept}
use Rattle.clru_shares.proofs.share.share_of.Goals as goal

pub returns : goal.returns
returns g c sizes idle requests timeless is =
    let name = name_of c.args.class.now in let sample = option_map non_zero_usize_get c.args.sample in
    let keys = class_keys name requests in
    record {
      is = c.in_ok-from_slice.ensures.items ∙ c.deref.ensures.value;
      counted = is.counted ∙ ap (λ l. length l) keys ∙ length-keys_of (of_class name requests);
      summed = is.summed ∙ ap (size_in sizes) keys;
      numbered = is.numbered ∙ ap (λ l. length l) (class_kept sample name requests);
      curve = subst (λ rs. IsCurveBy sizes (limit_of idle) rs c.in_ok-curve_of.field-0) (class_kept sample name requests)
          (c.in_ok-curve_of.ensures sizes (limit_of idle) (of_class name (kept_in sample requests)) is.taken);
      timeless = timeless_kept idle sample (of_class name requests) (timeless_class idle name requests timeless);
      sampled = refl;
    }
