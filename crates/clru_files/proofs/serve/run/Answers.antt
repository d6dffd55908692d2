use Rattle.std.proofs.Common.{ℕ, List, ◌++◌, ◌∷◌, [], flat_map, map, refl, sym, ap, ◌∙◌, arith, append-nil, count_by, not}
use Rattle.std.specs.Str.{is_utf8}
use Rattle.std.proofs.KnownBytes.{Appends-nil}
use Rattle.std.specs.Io.KnownBytes.{Appends}
use Rattle.clru_files.specs.Serving.{line_of}
use Rattle.clru_files.specs.declared.served.Served.{Served}
use Rattle.clru_files.proofs.Requests.{push_lines, push_all, push_counts, push_text, paths_among, others_among, one_more}
use Rattle.clru_files.proofs.Reading.{none_read, push_read, recent_of}
use Rattle.clru_files.proofs.serve.run.Goals as goal

pub lines-init : goal.lines-init
lines-init g c =
    let none = c.new-counts.ensures in
    let hits = ap (λ counts. counts.hits) none in let fetches = ap (λ counts. counts.fetches) none in
    let no_memory = ap (λ counts. counts.no_memory) none in let no_text = ap (λ counts. counts.no_text) none in record {
      served = (
        [],
        refl,
        tt,
        record { hits = hits; fetches = fetches; no_memory = no_memory; no_text = no_text },
        Appends-nil _,
        λ limit is empty. none_read _ limit _ _ empty,
      );
      few = omega (arith, hits, fetches, no_memory, no_text);
    }

pub lines-preserved : goal.lines-preserved
lines-preserved g c =
    let (done, lines, all, counts, written, read) = c.lines.invariant.served in
    let next : List ℕ × Served = (c.in-Some.line.now, c.serve-served.result) in
    let first = g.W.Write.contents c.args.output.now in let old = g.W.Write.contents c.lines.output in
    let new = g.W.Write.contents c.write_served.new.output in
    let line : Appends old new (line_of next) = c.in_ok-write_served.ensures in
    let text : Appends first new (flat_map line_of (done ++ next ∷ [])) = push_text done next first old new written line in record {
      served = (
        done ++ next ∷ [],
        push_lines _ _ done next _ lines c.in-Some.ensures.line,
        push_all _ done next all c.serve-served.ensures.no_text,
        push_counts done next _ _ counts c.add.ensures.hits c.add.ensures.fetches c.add.ensures.no_text c.add.ensures.no_memory,
        text,
        λ limit is empty. push_read g.T.Timer.reads limit done next _ _ _ c.in_ok-now.now _ _
            (read limit is empty) c.in_ok-now.ensures.step c.serve-served.ensures.hit
            (c.serve-served.ensures.recent limit is) (c.serve-served.ensures.read limit is),
      );
      few = omega (arith, c.lines.invariant.few, c.in-Some.ensures.shorter, one_more c.serve-served.result, c.add.ensures.hits, c.add.ensures.fetches, c.add.ensures.no_text, c.add.ensures.no_memory);
    }

pub returns-clause-paths : goal.returns-clause-paths
returns-clause-paths g c =
    let (done, lines, all, counts, written, read) = c.lines.invariant.served in
    let left = lines ∙ ap (λ more. map (λ r. r.0) done ++ more) c.in_default.ensures.none ∙ append-nil _ in
    omega (arith, counts.hits, counts.fetches, counts.no_memory, paths_among done all, ap (count_by is_utf8) left)

pub returns-clause-others : goal.returns-clause-others
returns-clause-others g c =
    let (done, lines, all, counts, written, read) = c.lines.invariant.served in
    let left = lines ∙ ap (λ more. map (λ r. r.0) done ++ more) c.in_default.ensures.none ∙ append-nil _ in
    counts.no_text ∙ others_among done all ∙ sym (ap (count_by (λ line. not (is_utf8 line))) left)

pub returns-clause-written : goal.returns-clause-written
returns-clause-written g c =
    let (done, lines, all, counts, written, read) = c.lines.invariant.served in
    let left = lines ∙ ap (λ more. map (λ r. r.0) done ++ more) c.in_default.ensures.none ∙ append-nil _ in
    (done, record { lines = sym left; served = all }, counts, written, λ limit is empty. recent_of _ limit done _ _ _ (read limit is empty))
