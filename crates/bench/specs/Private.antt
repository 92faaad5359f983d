-- What private calls alone promise by; whoever believes the open calls need not read it.
use Rattle.std.specs.Prelude.{ℕ, ◌≡◌}
use Rattle.delivery.specs.Limits.{Limits}
use Rattle.vote.specs.Boards.{with_status}
use Rattle.vote.specs.Announcements.{announce}
use Rattle.vote.specs.declared.board.Decision.{Decision}
use Rattle.vote.specs.declared.board.Status.TheVariants.{Voting, Decided}
use Rattle.bench.specs.Benches.{board_at}
use Rattle.bench.specs.declared.bench.Bench.{Bench}
use Rattle.bench.specs.declared.event.Event.{Event}

-- board k is voting: no row before row 22 refuses its turn
abbrev pub IsVoting : Limits → Bench → ℕ → Type 0
IsVoting L c k = (board_at L c k).status ≡ Voting

-- the decision that an announcement tells of
abbrev pub announced : Event → Decision
announced e = record { round = record { 0 = e.id }; value = e.value }

-- the board that an announcement is for decides that: no row before row 22 refuses it
abbrev pub IsConvinced : Limits → Bench → Event → Type 0
IsConvinced L c e =
    announce L c.n (board_at L c e.a) e.id e.value ≡ with_status (board_at L c e.a) (Decided (announced e))
