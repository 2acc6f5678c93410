use Rattle.std.proofs.Common.{◌≡◌, ℕ, ◌*◌, ◌≤◌, true, is_ok, length, sym, ◌∙◌, subst, mul-le-mul, arith}
use Rattle.model.specs.Problems.{steps}
use Rattle.model.specs.Held.{problem_of}
use Rattle.model.specs.Rankings.{EachOnce}
use Rattle.model.proofs.Copies.{on_ok}
use Rattle.marks.specs.Pinning.{pins_of}
use Rattle.search.proofs.Ordered.{ordered}
use Rattle.search.proofs.Searches.{few_rows}
use Rattle.search.proofs.Beginnings.{begins_anew, range_none, fits_true}
use Rattle.search.proofs.tables.Search.ask.Goals as goal

pub invariant_of-self : goal.invariant_of-self
invariant_of-self g c =
    let s = c.args.self.now in
    let T = c.args.length in
    let m = steps (problem_of s.problem) in
    let few = few_rows s.problem in
    let small : T * m ≤ 8192 = mul-le-mul c.requires few in
    let long : length c.copy_order.new.table ≡ 8192 = omega (arith, c.copy_order.auto.table, s.order_sized) in
    let true_at : is_ok c.copy_order.result ≡ true = c.copy_order.ensures.fits
    ∙ fits_true T c.steps.result (length s.order) c.requires (omega (arith, few, c.steps.ensures))
    (subst (λ (k : ℕ). T * k ≤ length s.order) (sym c.steps.ensures) (omega (arith, small, s.order_sized))) in
    let once : EachOnce T m c.copy_order.new.table = subst (λ (k : ℕ). EachOnce T k c.copy_order.new.table) c.steps.ensures (on_ok c.copy_order.result true_at c.copy_order.ensures.once) in record {
      short = c.requires;
      order_sized = long;
      sound = begins_anew s (ordered T m c.copy_order.new.table once (omega (arith, small, long)))
          (range_none (pins_of c.none-self.result) T m c.none-self.ensures) c.work_out-self.ensures.begun c.work_out-self.ensures.cells c.clear.ensures;
    }
