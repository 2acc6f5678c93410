use Rattle.std.proofs.Common.{◌≡◌, ℕ, true, false, List, [], ◌∷◌, ◌++◌, take, refl, ap, ◌∙◌, ap₂}
use Rattle.std.proofs.lemmas.Bool.{cond-false}
use Rattle.clauses.specs.Waiting.{waiting}
use Rattle.clauses.proofs.Waits.{noted_push, resumes}
use Rattle.clauses.proofs.waiting.Waiting.note.Goals as goal

pub returns : goal.returns
returns c =
    let w = c.args.self.now in
    let r = c.resume-waiting.ensures in
    let e = c.push-ok.ensures in
    let resumed : c.resume-waiting.result.len ≡ w.len = r.len ∙ resumes w in
    let more : c.push-ok.result ≡ true → take c.len-self.result c.push-ok.new.self.table.now ≡ waiting w ++ (c.args.a.number, c.args.b.number) ∷ [] = λ yes.
    ap (λ (k : ℕ). take k c.push-ok.new.self.table.now) c.len-self.ensures ∙ e.held yes
    ∙ ap₂ (λ (k : ℕ) (ys : List (ℕ × ℕ)). take k ys ++ (c.args.a.number, c.args.b.number) ∷ []) resumed r.table in
    let same : c.push-ok.result ≡ false → take c.len-self.result c.push-ok.new.self.table.now ≡ waiting w = λ no.
    ap₂ take (c.len-self.ensures ∙ e.len ∙ cond-false _ _ _ no ∙ resumed) (e.table ∙ cond-false _ _ _ no ∙ r.table) in
    let both = noted_push w _ c.args.a.number c.args.b.number c.push-ok.result more same refl in
    record { noted = both.0; held = both.1 }
