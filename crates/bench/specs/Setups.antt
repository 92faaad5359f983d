-- Document 01, "Where an event or file stops": the call for a fresh bench, from n and the marks of the boards.
use Rattle.std.specs.Prelude.{ℕ, Bool, List, Result, Ok, Err, replicate, if◌then◌else◌, ◌==◌, nat_le}
use Rattle.signer.specs.FromOne.{nth}
use Rattle.signer.specs.Signer.{fresh_signer}
use Rattle.delivery.specs.Counting.{every_in}
use Rattle.delivery.specs.Limits.{Limits}
use Rattle.delivery.specs.Bus.{is_board}
use Rattle.delivery.specs.Sets.{set_of, with_board}
use Rattle.delivery.specs.Owed.{nothing_owed}
use Rattle.vote.specs.Boards.{fresh_board}
use Rattle.bench.specs.declared.bench.Bench.{Bench}
use Rattle.bench.specs.declared.fresh.Fresh.{Fresh}
use Rattle.bench.specs.declared.answer.SetupFault.{SetupFault}
use Rattle.bench.specs.declared.answer.SetupFault.TheVariants.{NoBus, NoMark}

-- a mark is 0, sound, or 1, faulty; board k's is the k-th
abbrev pub is_mark : ℕ → Bool
is_mark m = nat_le m 1

unfoldable pub is_mark_at : List ℕ → ℕ → Bool
is_mark_at marks k = is_mark (nth marks k 0)

unfoldable pub is_marked_sound : List ℕ → ℕ → Bool
is_marked_sound marks k = nth marks k 0 == 0

-- the answer to the call: n is looked at first, then the marks of boards 1 to n, and no others
unfoldable pub fresh_answer : Limits → ℕ → List ℕ → Result (Unit {0}) SetupFault
fresh_answer L n marks = if is_board L n then (if every_in n (is_mark_at marks) then Ok tt else Err NoMark) else Err NoBus

-- how many boards there are, and which are sound
pub record Setup : Type 0 where
  pub n : ℕ
  pub sound : ℕ

-- one board, and it is sound
abbrev pub alone : Setup
alone = record { n = 1; sound = with_board 0 1 }

-- what the call asks for, or one sound board where it is refused
unfoldable pub setup_by : Result (Unit {0}) SetupFault → ℕ → List ℕ → Setup
setup_by (Ok _) n marks = record { n = n; sound = set_of n (is_marked_sound marks) }
setup_by (Err _) n marks = alone

abbrev pub setup : Limits → ℕ → List ℕ → Setup
setup L n marks = setup_by (fresh_answer L n marks) n marks

-- a bench on which nothing has happened
unfoldable pub bench_of : Limits → ℕ → ℕ → Bench
bench_of L n sound =
    record {
      n = n;
      sound = sound;
      boards = replicate L.boards (fresh_board L);
      signers = replicate L.boards (fresh_signer L.identifiers);
      owed = nothing_owed L;
    }

unfoldable pub fresh_bench : Limits → ℕ → List ℕ → Bench
fresh_bench L n marks = bench_of L (setup L n marks).n (setup L n marks).sound

-- what the call gives
unfoldable pub fresh_of : Limits → ℕ → List ℕ → Fresh
fresh_of L n marks = record { bench = fresh_bench L n marks; answer = fresh_answer L n marks }
