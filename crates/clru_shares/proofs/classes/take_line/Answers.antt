use Rattle.std.proofs.Common.{◌≡◌, ℕ, List, true, [], ◌∷◌, length, sym, ap, ◌∙◌, subst, arith}
use Rattle.std.specs.Prelude.{bytes_eq}
use Rattle.std.proofs.lemmas.List.{length-append}
use Rattle.clru_text.specs.Keys.{line_of}
use Rattle.clru_text.specs.TakenRequests.{shown_of}
use Rattle.clru_text.proofs.ByteLemmas.{bytes_laws}
use Rattle.clru_shares.specs.Classes.{of_class, requests_of}
use Rattle.clru_shares.specs.LinePasses.{HasTakenBy}
use Rattle.clru_shares.specs.Passes.{name_of, next_number}
use Rattle.clru_shares.specs.Sizes.{size_in}
use Rattle.clru_shares.proofs.ClassLemmas.{one_more}
use Rattle.clru_shares.proofs.PassLemmas.{size_next}
use Rattle.clru_shares.proofs.SampleLemmas.{next_counted, next_few, one_next}
use Rattle.clru_shares.proofs.classes.take_line.Goals as goal

pub take_kept-requires : goal.take_kept-requires
take_kept-requires g c =
    (c.requires.0, c.requires.1, of_class (name_of c.args.class.now) c.requires.3, c.requires.4, c.requires.5.taken, c.requires.6, c.requires.7)

pub next_number-class-requires : goal.next_number-class-requires
next_number-class-requires g c = omega (arith, c.in-Some.ensures, c.requires.5.fewer)

pub returns-clause-taken : goal.returns-clause-taken
returns-clause-taken g c sizes limit lines kept request is sized asked own =
    let class = c.args.class.now in let name = name_of class in let line = line_of request.0 in
    let requests = requests_of name lines in
    let ours = subst (λ n. bytes_eq name n ≡ true) own (bytes_laws.refl name) in let more = one_more name lines line ours in
    let r : List ℕ × ℕ = shown_of request in let held = of_class name kept in let next = one_next c.args.is_kept name kept r ours in
    record {
      taken = subst (λ ls. HasTakenBy sizes limit ls c.take_kept.new.pass) (sym next) (c.in_ok-take_kept.ensures sizes limit held request is.taken sized asked);
      numbered = c.next_number-class.ensures ∙ ap (next_number c.args.is_kept) is.numbered ∙ next_counted c.args.is_kept held r ∙ sym (ap length next);
      fewer = omega (arith, c.next_number-class.ensures, next_few c.args.is_kept class.kept class.requests is.fewer, c.in-Some.ensures);
      counted = omega (arith, c.in-Some.ensures, is.counted, ap length more, length-append requests (line ∷ []));
      summed = omega (arith, c.in-Some-checked_add.ensures, sized, is.summed, ap (size_in sizes) more, size_next sizes requests line);
    }
