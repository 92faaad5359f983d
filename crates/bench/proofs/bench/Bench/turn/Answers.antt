-- `Bench::turn` meets its contract: its board's move, what it says, and whether its signer signs that. Assumes nothing.
use native.Mathlib.Omega.{arith}
use borrow.Author.Rules.{rules}
use mathlib.Core.Path.{◌≡◌, ◌∙◌, ap}
use mathlib.Core.Bool.{Bool, false}
use Prim.Native.Nat.{ℕ, ◌-◌}
use mathlib.Core.List.{List}
use lib.ListN.{length, get_or, set}
use Rattle.std.specs.Prelude.{◌&&◌}
use Rattle.std.proofs.lemmas.List.{set-get_or}
use Rattle.signer.specs.Signer.{grants}
use Rattle.delivery.specs.Bus.{is_board}
use Rattle.vote.specs.declared.board.Board.{Board}
use Rattle.bench.specs.declared.bench.Bench.{Bench}
use Rattle.delivery.specs.Limits.{limits}
use Rattle.vote.specs.Turns.{take}
use Rattle.bench.specs.Benches.{signer_at, move_at, said_at}
use Rattle.bench.specs.Table.{refuses}
use Rattle.bench.specs.Effects.{after_saying, with_owed, with_signature}
use Rattle.bench.proofs.TurnLaws.{wait-waits, wait-refuses, wait-neither, saying-board, signing-holders, turn-made, voting-low, voting-at, voting-there, unsigned-same}
use Rattle.bench.proofs.bench.Bench.turn.Goals as goal
use Rattle.bench.proofs.bench.Bench.turn.Goals.{in-Some+else-not-sign, in_default}

-- a board that was lent is put back as it was
back : (s : Bench) (k : ℕ) (d : Board) → record s { boards = set s.boards (k - 1) (get_or s.boards (k - 1) d) } ≡ s
back s k d = ap (λ (bs : List Board). record s { boards = bs }) (set-get_or s.boards (k - 1) d)

-- what board k's signer answers, asked under an identifier
abbrev granted : Bench → ℕ → ℕ → Bool
granted s k i = is_board limits k && grants limits.identifiers (signer_at limits s k) i

pub returns-then-eq-clause-answer : goal.returns-then-eq-clause-answer
returns-then-eq-clause-answer c =
    let s = c.args.self.now in
    let at = voting-at limits s c.args.k c.requires in
    let step : c.next_move-step.result ≡ move_at limits s c.args.k = grind (arith, at) in
    grind (arith, step, wait-waits limits s c.args.k c.requires)

pub returns-then-not-sign-clause-answer : goal.returns-then-not-sign-clause-answer
unfolding refuses
returns-then-not-sign-clause-answer c =
    let s = c.args.self.now in
    let k = c.args.k in
    let at = voting-at limits s k c.requires in
    let size : length s.boards ≡ limits.boards = search rules in
    let there = voting-there limits s k c.requires size in
    let said : c.said-said.result ≡ said_at limits s k = grind (arith, at) in
    let asked : c.sign.result ≡ granted s k c.in-Some.s.id.0 = c.sign.ensures.signed ∙ ap (λ (t : Bench). granted t k c.in-Some.s.id.0) (back s k _) in
    grind (arith, said, there, asked, wait-refuses limits s k c.requires)

pub returns-then-not-sign-clause-err : goal.returns-then-not-sign-clause-err
returns-then-not-sign-clause-err c =
    let s = c.args.self.now in
    let k = c.args.k in
    let low = voting-low limits s k c.requires in
    let size : length s.boards ≡ limits.boards = search rules in
    let there = voting-there limits s k c.requires size in
    let x = c.in-Some.s in
    let asked : c.sign.result ≡ granted s k x.id.0 = c.sign.ensures.signed ∙ ap (λ (t : Bench). granted t k x.id.0) (back s k _) in
    let left : c.sign.new.self ≡ with_signature limits s k x.id.0 x.value =
    c.sign.ensures.bench ∙ ap (λ (t : Bench). with_signature limits t k x.id.0 x.value) (back s k _) in
    grind (arith, low, there, unsigned-same, asked, left)

pub returns-clause-answer : goal.returns-clause-answer
unfolding refuses
returns-clause-answer c =
    let s = c.args.self.now in
    let k = c.args.k in
    let at = voting-at limits s k c.requires in
    let step : c.next_move-step.result ≡ move_at limits s k = grind (arith, at) in
    let said : c.said-said.result ≡ said_at limits s k = grind (arith, at) in
    let signs : refuses limits (signer_at limits s k) (said_at limits s k) ≡ false =
    elim c.match-said.branch [
      | in-Some+else-not-sign w ↦
          (let asked : w.sign.result ≡ granted s k w.in-Some.s.id.0 =
          w.sign.ensures.signed ∙ ap (λ (t : Bench). granted t k w.in-Some.s.id.0) (back s k _) in
          grind (arith, said, asked, w.in-Some.is, w.if-not-sign.false))
      | in_default w ↦ grind (arith, said)
    ] in
    grind (arith, step, signs, wait-neither limits s k c.requires)

pub returns-clause-ok : goal.returns-clause-ok
unfolding after_saying with_owed with_signature
returns-clause-ok c =
    let s = c.args.self.now in
    let k = c.args.k in
    let at = voting-at limits s k c.requires in
    let step : c.next_move-step.result ≡ move_at limits s k = grind (arith, at) in
    let told : c.said-said.result ≡ said_at limits s k = grind (arith, at) in
    let said : c.match-said.self ≡ after_saying limits s k (said_at limits s k) =
    elim c.match-said.branch [
      | in-Some+else-not-sign w ↦
          (let x = w.in-Some.s in
          let left : w.sign.new.self ≡ with_signature limits s k x.id.0 x.value =
          w.sign.ensures.bench ∙ ap (λ (t : Bench). with_signature limits t k x.id.0 x.value) (back s k _) in
          let owed = w.record_signing.ensures in
          let sound = w.from.ensures in
          let have = w.holders-have.ensures in
          grind (arith, told, left, w.in-Some.is, w.self-is, have, sound, owed, signing-holders))
      | in_default w ↦
          (let same : c.match-said.self ≡ s = w.self-is ∙ back s k _ in
          grind (arith, told, same))
    ] in
    let made = c.change.ensures (λ b. (take limits k b c.next_move-step.result).board) (λ b told. search rules) in
    grind (arith, made, step, said, saying-board, turn-made limits s k c.requires)
