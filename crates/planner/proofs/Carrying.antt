-- Calls carried out one after another. Assumes nothing.
use Rattle.std.proofs.Common.{ℕ, ◌+◌, ◌<◌, List, [], ◌∷◌, ◌++◌, length, get_or, take, drop, set, Result, sym, refl, ap, ◌∙◌, subst, arith}
use Rattle.std.proofs.lemmas.List.{take_more, take_more_set, drop-drop, drop-set-lt}
use Rattle.model.specs.declared.answers.Decline.{Decline}
use Rattle.model.specs.Problems.{Problem}
use Rattle.model.specs.Rankings.{Order}
use Rattle.planner.specs.declared.tables.Planner.{Planner}
use Rattle.planner.specs.declared.call.Call.{Call}
use Rattle.planner.specs.declared.call.Answer.{Answer}
use Rattle.planner.specs.Ledger.{Event}
use Rattle.planner.specs.Obeys.{Obeys}
use Rattle.planner.specs.Histories.{History.none}
use Rattle.planner.specs.Carried.{event_of, Recorded, CarriedOut, CarriedSofar}
use Rattle.planner.proofs.Lawfulness.{one_more, every_history}

module _ (w : Problem) (order : Order) where
  -- one call more at the end
  recorded_more : (cs : List Call) (answers : List (Result Answer Decline)) (out : List ℕ) (es : List Event) (mid out' : List ℕ) (c : Call) (a : Result Answer Decline)
      → Recorded w order cs answers out es mid
      → Recorded w order (cs ++ (c ∷ [])) (answers ++ (a ∷ [])) out (es ++ (event_of w order c a mid out' ∷ [])) out'
  recorded_more [] [] out [] mid out' c a h = (out', ap (λ (z : List ℕ). event_of w order c a z out') h, refl)
  recorded_more [] [] out (e ∷ es) mid out' c a h = absurd h
  recorded_more [] (b ∷ answers) out es mid out' c a h = absurd h
  recorded_more (d ∷ cs) [] out es mid out' c a h = absurd h
  recorded_more (d ∷ cs) (b ∷ answers) out [] mid out' c a h = absurd h
  recorded_more (d ∷ cs) (b ∷ answers) out (e ∷ es) mid out' c a h = (h.0, h.1, recorded_more cs answers h.0 es mid out' c a h.2)

  pub sofar_none : (p : Planner) (calls : List Call) (answers : List (Result Answer Decline)) (out : List ℕ) → CarriedSofar w order p calls answers answers 0 out p out
  sofar_none p calls answers out = record { events = []; recorded = refl; history = none p; beyond = refl }

  pub sofar_more : (p q r : Planner) (calls : List Call) (blank answers : List (Result Answer Decline)) (n : ℕ) (out mid out' : List ℕ) (d : Call) (a : Result Answer Decline)
      → n < length calls → n < length answers → Obeys q (event_of w order (get_or calls n d) a mid out') r
      → CarriedSofar w order p calls blank answers n out q mid
      → CarriedSofar w order p calls blank (set answers n a) (n + 1) out r out'
  sofar_more p q r calls blank answers n out mid out' d a l k o s =
      let c = get_or calls n d in
      record {
        events = s.events ++ (event_of w order c a mid out' ∷ []);
        recorded =
            subst (λ (z : List Call). Recorded w order z (take (n + 1) (set answers n a)) out (s.events ++ (event_of w order c a mid out' ∷ [])) out') (sym (take_more calls n d l))
            (subst (λ (z : List (Result Answer Decline)). Recorded w order (take n calls ++ (c ∷ [])) z out (s.events ++ (event_of w order c a mid out' ∷ [])) out') (sym (take_more_set answers n a k))
            (recorded_more (take n calls) (take n answers) out s.events mid out' c a s.recorded));
        history = one_more (event_of w order c a mid out') s.history o;
        beyond =
            drop-set-lt (n + 1) answers n a (omega arith)
            ∙ sym (drop-drop 1 n answers) ∙ ap (drop 1) s.beyond ∙ drop-drop 1 n blank;
      }

  pub sofar_all : (p q : Planner) (calls : List Call) (blank answers : List (Result Answer Decline)) (n : ℕ) (out out' : List ℕ)
      → CarriedSofar w order p calls blank answers n out q out'
      → CarriedOut w order p (take n calls) (take n answers) out q out'
  sofar_all p q calls blank answers n out out' s = record {
    events = s.events;
    recorded = s.recorded;
    history = s.history;
    lawful = λ f. every_history p q s.events f s.history;
  }
