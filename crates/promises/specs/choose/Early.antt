-- Document 02, Wish 8, on one page: a search that drops modes early gives the answer of the full one, number, mode and sum, on every block,
-- served or refused. So what the page Choose says of the full search holds of it. For both doors: what meets their contracts, as the prover
-- reads them. Assumes nothing.
use Rattle.std.specs.Prelude.{◌≡◌, Result}
use contract.Lifetimes.{Lfts}
use Rattle.domain.specs.declared.refusal.Refusal.{Refusal}
use Rattle.choose.specs.declared.Best.{Best}
use Rattle.choose.proofs.choose_early.Reads as early
use Rattle.promises.specs.demand2.Demand2.{LentMutSlice, LentTables, ◌and◌}
use Rattle.promises.specs.one_answer.OneAnswer.{chosen_once, chosen_same}
use Rattle.promises.specs.choose.Choose.{Asked, Answers}

-- an answer that meets the early door's contract
abbrev pub AnswersEarly : Lfts 7 → Asked → LentMutSlice → LentTables → Result Best Refusal → LentMutSlice → LentTables → Type 0
AnswersEarly κs a pred tables r pred' tables' =
    early.Post κs (a.corner and a.above and a.left and a.source and a.n and a.bits and pred and tables) r
    (a.corner and a.above and a.left and a.source and a.n and a.bits and pred' and tables')

-- the two contracts are one
pub one_contract : (κs : Lfts 7) (a : Asked) (pred pred' : LentMutSlice) (tables tables' : LentTables) (r : Result Best Refusal)
    → AnswersEarly κs a pred tables r pred' tables' → Answers κs a pred tables r pred' tables'
one_contract κs a pred pred' tables tables' r p = p

-- the two answers are one
pub same_choice : (κs : Lfts 7) (a : Asked) (pred full-pred early-pred : LentMutSlice)
    (tables full-tables early-tables : LentTables) (r s : Result Best Refusal)
    → Answers κs a pred tables r full-pred full-tables → AnswersEarly κs a pred tables s early-pred early-tables → r ≡ s
same_choice κs a pred full-pred early-pred tables full-tables early-tables r s p q = chosen_same r s (chosen_once _ _ p.0 q.0)
