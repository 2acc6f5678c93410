use Rattle.std.proofs.Common.{◌≡◌, Bool, not, ◌&&◌, ◌||◌, sym, ap, ◌∙◌}
use Rattle.std.proofs.lemmas.Bool.{both_ways, not-false}
use Rattle.sets.specs.Literals.{Literal, opposite}
use Rattle.sets.specs.Sets.{lit_in}
use Rattle.model.specs.declared.step.Step.{Step}
use Rattle.model.specs.Held.{problem_of}
use Rattle.model.specs.Problems.{step}
use Rattle.clauses.specs.Waiting.{kept_in}
use Rattle.clauses.specs.Striking.{Spoilt}
use Rattle.clauses.proofs.Steps.{meets_barred, barred_meets, unsafe_spoilt, spoilt_undone, spoilt_unsafe}
use Rattle.clauses.proofs.Waits.{struck_none, struck_by}
use Rattle.clauses.proofs.record.ClauseRecord.examine.Goals as goal

pub returns-then-intersects : goal.returns-then-intersects
returns-then-intersects c =
    let p = problem_of c.args.problem.now in
    let o = c.args.o in
    let r = c.args.self.now in
    let against = c.opposites-against.result in
    let linked = c.linked-linked.result in
    let is : c.step-step.result ≡ step p o = c.step-step.ensures in
    let in-against : (l : Literal) → lit_in against l ≡ lit_in (step p o).needs (opposite l) =
    λ l. c.opposites-against.ensures l ∙ ap (λ (s : Step). lit_in s.needs (opposite l)) is in
    let e = c.linked-linked.ensures in
    let w = c.if-intersects.ensures in
    record {
      struck = struck_none r _;
      settled = λ opened n. absurd (n (meets_barred p o (kept_in r) against linked in-against e.some e.all w.0 w.1 w.2));
    }

pub returns : goal.returns
returns c =
    let p = problem_of c.args.problem.now in
    let o = c.args.o in
    let r = c.args.self.now in
    let W = kept_in r in
    let t = c.strike_rows.new.self in
    let against = c.opposites-against.result in
    let linked = c.linked-linked.result in
    let known = c.union-known.result in
    let undone = c.opposites-undone.result in
    let safe = c.union-safe.result in
    let is : c.step-step.result ≡ step p o = c.step-step.ensures in
    let in-against : (l : Literal) → lit_in against l ≡ lit_in (step p o).needs (opposite l) =
    λ l. c.opposites-against.ensures l ∙ ap (λ (s : Step). lit_in s.needs (opposite l)) is in
    let in-known : (l : Literal) → lit_in known l ≡ ((W l l || lit_in (step p o).needs l) || lit_in linked l) =
    λ l. c.union-known.ensures.members l ∙ ap (λ (b : Bool). b || lit_in linked l)
    (c.union.ensures.members l ∙ ap (λ (b : Bool). b || lit_in c.step-step.result.needs l) (c.singles.ensures l)
    ∙ ap (λ (s : Step). W l l || lit_in s.needs l) is) in
    let in-undone : (l : Literal) → lit_in undone l ≡ lit_in (step p o).makes (opposite l) =
    λ l. c.opposites-undone.ensures l ∙ ap (λ (s : Step). lit_in s.makes (opposite l)) is in
    let in-safe : (l : Literal) → lit_in safe l ≡ (lit_in (step p o).makes l || (lit_in known l && not (lit_in undone l))) =
    λ l. c.union-safe.ensures.members l ∙ ap (λ (b : Bool). lit_in c.step-step.result.makes l || b) (c.minus.ensures.members l)
    ∙ ap (λ (s : Step). lit_in s.makes l || (lit_in known l && not (lit_in undone l))) is in
    let e = c.linked-linked.ensures in
    let k = c.strike_rows.ensures in
    record {
      struck = struck_by r t _ (Spoilt p o W)
          (λ a b h. (
            sym (ap (λ (s : Step). s.enabled) is) ∙ not-false c.step-step.result.enabled c.if-not-step.false,
            barred_meets p o W against linked in-against e.some e.all c.if-intersects.ensures,
            unsafe_spoilt p o W against linked in-against e.some e.all known undone safe in-known in-undone in-safe a b h.0 h.1,
          )) k.struck;
      settled = λ opened n a b h s. both_ways (kept_in t a b)
          (k.done a (spoilt_undone p o W against linked in-against e.some e.all known undone safe in-known in-undone in-safe a b s)
          b (spoilt_unsafe p o W against linked in-against e.some e.all known undone safe in-known in-undone in-safe a b s)) h;
    }
