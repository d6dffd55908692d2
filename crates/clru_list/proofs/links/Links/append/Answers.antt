use Rattle.std.proofs.Common.{arith, Some, ap, ◌∙◌, ◌+◌, vec_len}
use Rattle.clru_list.specs.Links.{next_of, prev_of, item_of}
use Rattle.clru_list.specs.Halves.{upper_next, upper_prev}
use Rattle.clru_list.specs.Places.{put}
use Rattle.clru_list.specs.declared.links.Node.{Node}
use Rattle.clru_list.proofs.NodeLemmas.{links_of-append, place_by-none}
use Rattle.clru_list.proofs.links.Links.append.Goals as goal

pub returns-clause-links : goal.returns-clause-links
returns-clause-links g c =
    let s = c.args.self.now in let e = c.push_reserved.ensures in let at = vec_len s.nodes in
    let n : Node g.row.T.Denot = record { prev = 0; next = 0; item = Some c.args.item } in
    links_of-append s c.push_reserved.new.self c.clear_upper.new.upper n 0 0 e.items e.len (λ h. absurd (omega (arith, s.nodes.small, c.requires)))
    (c.clear_upper.ensures.next ∙ ap (λ k. put (upper_next s.upper) k 0) c.len-place.ensures)
    (c.clear_upper.ensures.prev ∙ ap (λ k. put (upper_prev s.upper) k 0) c.len-place.ensures)
    ∙ (λ i. record {
      next = put (next_of s) at (place_by-none i);
      prev = put (prev_of s) at (place_by-none i);
      item = put (item_of s) at (Some c.args.item);
      free = s.free;
      size = at + 1;
    })
