use Rattle.std.proofs.Common.{[], length, refl, sym, ap, ◌∙◌, subst, arith}
use Rattle.clru_text.specs.TakenRequests.{shown_of}
use Rattle.clru_shares.specs.Classes.{of_class, requests_of}
use Rattle.clru_shares.specs.LinePasses.{HasTakenBy}
use Rattle.clru_shares.specs.Places.{IsAskedOf}
use Rattle.clru_shares.specs.Sizes.{size_in}
use Rattle.clru_shares.proofs.PassLemmas.{none_sized}
use Rattle.clru_shares.proofs.classes.class_with.Goals as goal

pub take_line-requires : goal.take_line-requires
take_line-requires g c = let limit = c.requires.0 in (
  c.args.sizes,
  limit,
  [],
  [],
  c.requires.1,
  record { taken = c.empty_pass.ensures limit; numbered = refl; fewer = omega arith; counted = refl; summed = sym (none_sized c.args.sizes) },
  c.requires.2,
  c.requires.3,
)

pub returns-clause-taken : goal.returns-clause-taken
returns-clause-taken g c limit lines kept request none unkept sized asked own =
    let sizes = c.args.sizes in let named = c.in_ok-from_slice.ensures.items in
    let empty = ap (λ n. requests_of n lines) named ∙ none in let bare = ap (λ n. of_class n kept) named ∙ unkept in
    c.in_ok-take_line.ensures.taken sizes limit lines kept request
    (record {
      taken = subst (λ ls. HasTakenBy sizes limit ls c.empty_pass.result) (sym bare) (c.empty_pass.ensures limit);
      numbered = sym (ap length bare);
      fewer = omega arith;
      counted = sym (ap length empty);
      summed = sym (none_sized sizes) ∙ sym (ap (size_in sizes) empty);
    })
    sized
    (λ is. subst (λ ls. IsAskedOf limit ls (shown_of request) c.args.asked) (sym bare) (asked is)) (named ∙ own)
