use Rattle.std.proofs.Common.{ℕ, List, [], ◌∷◌, ◌++◌, sym, ap, ◌∙◌, subst}
use Rattle.std.proofs.lemmas.List.{append_assoc}
use Rattle.intake.specs.Lines.{line_feed}
use Rattle.intake.specs.Stream.{Fed}
use Rattle.intake.proofs.StreamLaws.{fed_on, fed_line}
use Rattle.intake.proofs.Intake.feed.Goals as goal

pub loop-line-preserved : goal.loop-line-preserved
loop-line-preserved g c =
    let done = c.loop-line.invariant.0 in
    let line = c.in-Some.line.now in
    let after = c.in-Some.after.now in
    let ended = line ++ (line_feed ∷ []) in
    let cut = append_assoc done ended after ∙ ap (λ v. done ++ v) (append_assoc line (line_feed ∷ []) after ∙ sym c.in-Some.ensures.1) ∙ c.loop-line.invariant.1 in (
      done ++ ended,
      cut,
      λ start xs fed.
          subst (λ (ys : List ℕ). Fed g.S.RecordSink start ys c.end_line.new.self) (append_assoc xs done ended)
          (fed_line g.S.RecordSink start (xs ++ done) line c.loop-line.self c.end_line.new.self c.in-Some.ensures.0 c.end_line.ensures.taken
          (c.loop-line.invariant.2 start xs fed)),
    )

pub returns : goal.returns
returns g c = record {
  fed = λ start xs fed.
      let done = c.loop-line.invariant.0 in
      let rest = c.loop-line.rest.now in
      subst (λ (ys : List ℕ). Fed g.S.RecordSink start ys c.hold.new.self) (append_assoc xs done rest ∙ ap (λ v. xs ++ v) c.loop-line.invariant.1)
      (fed_on g.S.RecordSink start (xs ++ done) rest c.loop-line.self c.hold.new.self c.in_default.ensures c.hold.ensures.same c.hold.ensures.held
      (c.loop-line.invariant.2 start xs fed));
}
