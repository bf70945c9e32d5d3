-- How the words of a cell go with its history.
-- For the contract of `NodeSeat::ask`: its answer is the grant after the history.
use Rattle.std.proofs.Common.{◌≡◌, ℕ, ◌+◌, ◌-◌, ◌*◌, ◌<◌, Bool, true, false, List, [], ◌∷◌, cond, max, sym, refl, ap, ◌∙◌, arith}
use Rattle.std.specs.Prelude.{slice_index}
use Rattle.policy_tree.specs.declared.limit.Limit.{Limit}
use Rattle.policy_tree.specs.declared.limit.Limit.TheVariants.{Spans, Bytes}
use Rattle.rate_budget.specs.Grant.{grants}
use Rattle.rate_budget.specs.Budget.{grants_of, still_spent, spent_in}
use Rattle.rate_budget.specs.BudgetLaws.{grants-law, after-law}
use Rattle.rate_budget.specs.declared.count.LimiterCount.{LimiterCount}
use Rattle.shared_budget.specs.declared.known.Asked.{Asked}
use Rattle.shared_budget.specs.declared.known.View.{View}
use Rattle.shared_budget.specs.History.{askings}
use Rattle.shared_budget.specs.Rule.{words_of, count_at, next_words, answer, asked}

-- the answer at the history's words is the grant after it
pub legal_after : (second amount : ℕ) (v : View) (log : List Asked) (x : List ℕ) → x ≡ words_of v.limit log → answer second amount v x ≡ grants v.limit (askings log) second amount
legal_after second amount v log x is = ap (answer second amount v) is ∙ grants-law v.node v.limit (askings log) second amount

-- the words after it are those of the history with it
pub words_after : (second amount : ℕ) (v : View) (log : List Asked) (x : List ℕ) → x ≡ words_of v.limit log → next_words second amount v x ≡ words_of v.limit (asked v second amount (answer second amount v x) ∷ log)
words_after second amount v log x is =
    ap (next_words second amount v) is
    ∙ ap (λ (c : LimiterCount). c.second ∷ c.spent ∷ []) (after-law v.node v.limit (askings log) second amount)
    ∙ ap (λ (g : Bool). words_of v.limit (asked v second amount g ∷ log)) (sym (legal_after second amount v log x is))

-- a count that stays was asked in vain
unchanged : (second n : ℕ) (c : LimiterCount) → 0 < n → max second c.second ≡ c.second → cond (grants_of second n c) (spent_in second c + n) (spent_in second c) ≡ c.spent → grants_of second n c ≡ false
unchanged second n c pos s g = at (grants_of second n c) refl where
  now : (limit : Limit) (seconds amount : ℕ) → seconds ≡ 0 → still_spent limit seconds amount ≡ amount
  now (Spans per_second) seconds amount e = ap (λ k. still_spent (Spans per_second) k amount) e
  now (Bytes per_second burst) seconds amount e = ap (λ k. still_spent (Bytes per_second burst) k amount) e ∙ (let none : amount - per_second * 0 ≡ amount = omega arith in none)

  at : (b : Bool) → grants_of second n c ≡ b → grants_of second n c ≡ false
  at false e = e
  at true e =
      let more : spent_in second c + n ≡ c.spent = ap (λ b. cond b (spent_in second c + n) (spent_in second c)) (sym e) ∙ g in
      let same : spent_in second c ≡ c.spent = now c.limit (second - c.second) c.spent (omega arith) in
      absurd (omega arith)

-- where an asking leaves the words, its answer is no
pub refused : (second amount : ℕ) (v : View) (x : List ℕ) → 0 < amount → next_words second amount v x ≡ x → answer second amount v x ≡ false
refused second amount v x pos same = unchanged second amount (count_at v x) pos (ap (λ l. slice_index l 0) same) (ap (λ l. slice_index l 1) same)
