-- What holds of a board's whole life, as it is claimed. Assumes nothing.
use Prim.Native.Nat.{ℕ, ◌≤◌}
use native.Mathlib.Omega.{arith}
use mathlib.Core.Path.{◌≡◌}
use mathlib.Core.List.{List}
use Rattle.delivery.specs.Limits.{limits}
use Rattle.delivery.specs.Delivered.{heard}
use Rattle.delivery.proofs.DeliveredLaws.{deliver-same}
use Rattle.delivery.proofs.GrowthLaws.{Grows, grows_same, grows-on}
use Rattle.delivery.proofs.SetLaws.{with-twice, without-twice}
use Rattle.vote.specs.Ballots.{tally}
use Rattle.vote.specs.Boards.{fresh_board, is_started, hears, deliver_to, suspect, trust}
use Rattle.vote.specs.Turns.{position_after, status_after, said_in, hears_own, answer_to, turn_in, turn}
use Rattle.vote.specs.Calls.{Call, board_after}
use Rattle.vote.specs.Life.{EachFits}
use Rattle.vote.specs.declared.board.Board.{Board}
use Rattle.vote.specs.declared.board.Status.TheVariants.{Decided}
use Rattle.vote.proofs.EstimateLaws.{Admitted, fresh-admitted, after-admitted}
use Rattle.vote.proofs.LifeLaws.{Grounded, fresh-grounded, called-grounded, called-grows, called-final, after-kept, statements-rise}
use Rattle.vote.proofs.ProperLaws.{Proper, fresh-proper, called-proper}
use Rattle.vote.proofs.SigningLaws.{due, turn-signs}
use Rattle.vote.proofs.TurnLaws.{turn-estimate}
use Rattle.vote.proofs.claims.every_life.Goals as goal

proper : (n me : ℕ) (cs : List Call) → Proper limits (board_after n me cs)
proper n me =
    let k = λ (b : Board) (p : Proper limits b). called-proper limits b p n me (omega arith) in
    after-kept limits n me (Proper limits) k (fresh_board limits) (fresh-proper limits)

admitted : (n me : ℕ) (cs : List Call) → 1 ≤ n → EachFits cs → Admitted limits n (board_after n me cs)
admitted n me cs some =
    let a = fresh-admitted limits n in
    after-admitted limits n me some (omega arith) (fresh_board limits) (fresh-proper limits) a cs

pub returns-clause-backed : goal.returns-clause-backed
unfolding tally
returns-clause-backed c n me cs d e =
    let k = called-grounded limits n me in
    let g = after-kept limits n me (Grounded limits n) k (fresh_board limits) (fresh-grounded limits n) cs in
    let w = g.won d e in
    (w.value, w.quorum-bears)

pub returns-clause-once : goal.returns-clause-once
returns-clause-once c n me b cs d e =
    after-kept limits n me (λ (x : Board). x.status ≡ Decided d) (λ x. called-final limits n me x d) b e cs

pub returns-clause-signs : goal.returns-clause-signs
returns-clause-signs c = turn-signs limits

pub returns-clause-rising : goal.returns-clause-rising
unfolding due fresh_board is_started
returns-clause-rising c n me = statements-rise limits n me (omega arith) (fresh_board limits) (fresh-proper limits)

pub returns-clause-opened : goal.returns-clause-opened
returns-clause-opened c = turn-estimate limits

pub returns-clause-values : goal.returns-clause-values
returns-clause-values c n me cs some fit = let a = admitted n me cs some fit in (a.plain, a.value)

pub returns-clause-allowed : goal.returns-clause-allowed
returns-clause-allowed c n me cs some fit = (admitted n me cs some fit).permitted

pub returns-clause-untaken : goal.returns-clause-untaken
unfolding turn turn_in answer_to position_after status_after said_in hears_own
returns-clause-untaken c n me b f = grind arith

pub returns-clause-stands : goal.returns-clause-stands
returns-clause-stands c n me cs =
    let p = proper n me cs in record { round = p.round; estimate = p.estimate; spent = p.spent }

pub returns-clause-hears : goal.returns-clause-hears
unfolding hears deliver_to
returns-clause-hears c n me cs s b i z = deliver-same limits _ s.speaker s.id.0 s.value (proper n me cs).whole b i z

pub returns-clause-keeps : goal.returns-clause-keeps
returns-clause-keeps c n me b cs s i f =
    let h = heard limits b.delivered in
    let P = λ (x : Board). Grows h (heard limits x.delivered) in
    let k = λ (x : Board) (g : P x) (c : Call). grows-on h _ _ g (called-grows limits n me x c) in
    (after-kept limits n me P k b (grows_same h) cs).keeps s i f

pub returns-clause-repeated : goal.returns-clause-repeated
unfolding suspect trust
returns-clause-repeated c b k = grind (arith, with-twice, without-twice)
