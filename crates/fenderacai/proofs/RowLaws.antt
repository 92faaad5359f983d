-- Laws of rows: words put one after another, and how many they are. Assumes nothing.
use Prim.Native.Nat.{ℕ, ◌+◌, ◌*◌, ◌≤◌, ◌<◌}
use native.Mathlib.Omega.{arith}
use mathlib.Core.Path.{◌≡◌, refl, sym, ap, ◌∙◌}
use mathlib.Core.List.{List, [], ◌∷◌, ◌++◌, append_assoc}
use lib.ListN.{length, take, drop, get_or, length-append, length-drop}
use Rattle.std.proofs.lemmas.List.{drop_more, get_or-drop, take_all}
use lib.Seq.{sets, sets-eq, drop-drop}
use borrow.Rule.Slice.PartMut.{put_mid}
use Rattle.delivery.specs.Limits.{limits}
use Rattle.signer.proofs.LogLaws.{entry-index}
use Rattle.delivery.specs.Delivered.{heard_in}
use Rattle.delivery.specs.Owed.{receivers}
use Rattle.delivery.specs.declared.owed.Copies.{Copies}
use Rattle.delivery.specs.declared.owed.Owed.{Owed}
use Rattle.delivery.proofs.DeliveredLaws.{heard-index}
use Rattle.delivery.proofs.OwedLaws.{receivers-index}
use Rattle.bench.proofs.BenchLaws.{board-index, signed-log}
use Rattle.bench.specs.Benches.{board_at, signer_at, signed_by, heard_by}
use Rattle.bench.specs.declared.bench.Bench.{Bench}
use Rattle.vote.specs.declared.board.Board.{Board}
use Rattle.schedule.specs.Prints.{parts_to}
use Rattle.schedule.proofs.PrintLaws.{length-parts, parts-cut}
use Rattle.fenderacai.specs.Rows.{status_words, position_words, board_words, words_to, table_words, row}
use Rattle.fenderacai.specs.Private.{board_size, table_size, row_size}

-- how many words a board is
pub length-board : (b : Board) (last : ℕ) → length (board_words b last) ≡ board_size
unfolding board_words status_words position_words
length-board b last = refl

-- n words have length n, so the first n speakers of a table have as many words, and a table has its size
length-words : (n : ℕ) (f : ℕ → ℕ) → length (words_to n f) ≡ n
length-words n f = length-parts 1 n _ (λ k. refl) ∙ omega arith

pub length-speakers : (f : ℕ → ℕ → ℕ) (n : ℕ) → length (parts_to n (λ s. words_to limits.identifiers (f s))) ≡ n * limits.identifiers
length-speakers f n = length-parts limits.identifiers n _ (λ s. length-words limits.identifiers (f s))

pub length-table : (f : ℕ → ℕ → ℕ) → length (table_words limits f) ≡ table_size limits
unfolding table_words
length-table f = length-speakers f limits.boards

-- the first n parts of a row's boards and of what they delivered, and the row
module _ (c : Bench) where
  pub length-boards : (n : ℕ) → length (parts_to n (λ k. board_words (board_at limits c k) (signer_at limits c k).last.0)) ≡ n * board_size
  length-boards n = length-parts board_size n _ (λ k. length-board (board_at limits c k) (signer_at limits c k).last.0)

  pub length-delivered : (n : ℕ) → length (parts_to n (λ k. table_words limits (heard_by limits c k))) ≡ n * table_size limits
  length-delivered n = length-parts (table_size limits) n _ (λ k. length-table (heard_by limits c k))

  pub length-row : (answer : ℕ) → length (row limits answer c) ≡ row_size limits
  unfolding row
  length-row answer =
      simp length-append (omega (arith, length-boards limits.boards, length-table (signed_by limits c), length-delivered limits.boards, length-table (receivers limits c.owed)))

-- words that are told one by one as a list has them are the head of that list
words-cut : (n : ℕ) (f : ℕ → ℕ) (xs : List ℕ) → n ≤ length xs → ((k : ℕ) → k < n → f (k + 1) ≡ get_or xs k 0)
    → words_to n f ≡ take n xs
words-cut n f xs h e =
    let whole : 1 * n ≡ n = omega arith in
    let part : (k : ℕ) → k < n → f (k + 1) ∷ [] ≡ take 1 (drop (1 * k) xs) =
    λ k l. let at : 1 * k ≡ k = omega arith in rw (at, drop_more xs k 0 (omega (arith, h, l)), e k l) refl in
    let cut : words_to n f ≡ take (1 * n) xs = parts-cut 1 n (λ k. f k ∷ []) xs part in
    cut ∙ ap (λ (m : ℕ). take m xs) whole

-- so a log's entries are its words, and the entries of what was delivered are their table
pub signed-words : (c : Bench) (k : ℕ) → length (signer_at limits c k).log.entries ≡ limits.identifiers
    → words_to limits.identifiers (signed_by limits c k) ≡ (signer_at limits c k).log.entries
signed-words c k n =
    let l = (signer_at limits c k).log in
    let told : (i : ℕ) → i < limits.identifiers → signed_by limits c k (i + 1) ≡ get_or l.entries i 0 =
    λ i h. signed-log limits c k (i + 1) ∙ entry-index l i in
    words-cut limits.identifiers _ l.entries (omega (arith, n)) told ∙ take_all limits.identifiers l.entries (omega (arith, n))

delivered-table : (es : List ℕ) → length es ≡ table_size limits → table_words limits (heard_in limits es) ≡ es
unfolding table_words
delivered-table es n =
    let part = λ (s : ℕ) (b : s < limits.boards).
    words-cut
    limits.identifiers
    (heard_in limits es (s + 1))
    (drop (limits.identifiers * s) es)
    (omega (arith, length-drop (limits.identifiers * s) es, n, b))
    (λ i h. heard-index limits es s i b h ∙ sym (get_or-drop (limits.identifiers * s) es i 0)) in
    parts-cut limits.identifiers limits.boards _ es part ∙ take_all (limits.identifiers * limits.boards) es (omega (arith, n))

pub delivered-words : (c : Bench) (k : ℕ) (d : Board) → k < length c.boards → length (get_or c.boards k d).delivered.entries ≡ table_size limits
    → table_words limits (heard_by limits c (k + 1)) ≡ (get_or c.boards k d).delivered.entries
delivered-words c k d h n = rw (board-index limits c k d h) (delivered-table (get_or c.boards k d).delivered.entries n)

pub owed-words : (o : Owed) (k : ℕ) (d : Copies) → k < length o.speakers → length (get_or o.speakers k d).receivers ≡ limits.identifiers
    → words_to limits.identifiers (receivers limits o (k + 1)) ≡ (get_or o.speakers k d).receivers
owed-words o k d h n =
    let xs = (get_or o.speakers k d).receivers in
    words-cut limits.identifiers _ xs (omega (arith, n)) (λ i h'. receivers-index limits o k i d h)
    ∙ take_all limits.identifiers xs (omega (arith, n))

-- words that were copied in their place were put there
pub words_put : (words copied buf : List ℕ) (at k : ℕ) → copied ≡ words → k ≡ length words → at + length words ≤ length buf
    → put_mid at k buf copied ≡ sets buf at words
words_put words copied buf at k e n h =
    ap (λ (ws : List ℕ). take at buf ++ (ws ++ drop k (drop at buf))) e
    ∙ ap (λ (ws : List ℕ). take at buf ++ (words ++ ws)) (drop-drop k at buf ∙ ap (λ (m : ℕ). drop (at + m) buf) n)
    ∙ sym (append_assoc (take at buf) words (drop (at + length words) buf))
    ∙ sym (sets-eq words buf at h)
