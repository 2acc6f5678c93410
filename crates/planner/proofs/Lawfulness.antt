-- Every history of calls is lawful. Assumes nothing.
use Rattle.std.proofs.Common.{◌≡◌, List, [], ◌∷◌, ◌++◌, refl, ap, ◌∙◌, subst}
use Rattle.model.specs.declared.path.Entry.{Entry}
use Rattle.planner.specs.declared.tables.Planner.{Planner}
use Rattle.planner.specs.Ledger.{Ledger, Ledger.blank, Event}
use Rattle.planner.specs.Obeys.{Obeys, ledger, path}
use Rattle.planner.specs.Histories.{History, History.none, History.more, ledger_after, EachKept, EveryHistory}

pub ledger_kept : {p q : Planner} {es : List Event} → History p es q → ledger q ≡ ledger_after (ledger p) es
ledger_kept (none p) = refl
ledger_kept (more p q r e es o h) = ledger_kept h ∙ ap (λ (L : Ledger). ledger_after L es) o.written

pub each_kept : {p q : Planner} {es : List Event} → History p es q → EachKept (ledger p) (path p) es (path q)
each_kept (none p) = refl
each_kept (more p q r e es o h) = (path q, o.promised, subst (λ (L : Ledger). EachKept L (path q) es (path r)) o.written (each_kept h))

pub every_history : EveryHistory
every_history p q es f h = record {
  written = ledger_kept h ∙ ap (λ (L : Ledger). ledger_after L es) f.empty;
  promised = subst (λ (before : List Entry). EachKept blank before es (path q)) f.unmoved (subst (λ (L : Ledger). EachKept L (path p) es (path q)) f.empty (each_kept h));
}

-- a history goes on with one call more
pub one_more : {p q r : Planner} {es : List Event} (e : Event) → History p es q → Obeys q e r → History p (es ++ (e ∷ [])) r
one_more {p} {q} {r} e (none s) o = more s r r e [] o (none r)
one_more e (more p q r f es w h) o = more p q _ f (es ++ (e ∷ [])) w (one_more e h o)
