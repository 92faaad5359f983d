-- Worked examples: the letters a to l in one list, files of every kind with what they print, and refused files. Files are
-- written as their bytes, and what is printed as its text. The letters about signers and acceptance are stated in the crates
-- below. All are computed in proofs/ExampleLaws.
use Rattle.std.specs.Prelude.{ℕ, ◌≡◌, List, [], ◌∷◌, ◌++◌, codes}
use Rattle.std.specs.List.{flat_map}
use Rattle.signer.specs.Examples.{LetterD}
use Rattle.delivery.specs.Limits.{limits}
use Rattle.delivery.specs.Examples.{LetterA, LetterB, LetterC, LetterE, LetterF, LetterG, LetterH, LetterI, LetterJ, LetterK}
use Rattle.schedule.specs.Prints.{printed}

-- the whole case: one board, which is sound, and four events; it proposes 700 and takes three turns
abbrev pub whole_case : List ℕ
whole_case =
    1 ∷ 0 ∷ 0 ∷ 4
    ∷ 1 ∷ 1 ∷ 0 ∷ 0 ∷ 2 ∷ 188
    ∷ 2 ∷ 1 ∷ 0 ∷ 0 ∷ 0 ∷ 0
    ∷ 2 ∷ 1 ∷ 0 ∷ 0 ∷ 0 ∷ 0
    ∷ 2 ∷ 1 ∷ 0 ∷ 0 ∷ 0 ∷ 0
    ∷ []

abbrev pub LetterL : Type 0
LetterL = printed limits whole_case ≡ codes "1 0\n2 0\n3 0\n4 0\n1 D 1 700\n"

pub record Letters : Type 0 where
  pub a : LetterA
  pub b : LetterB
  pub c : LetterC
  pub d : LetterD
  pub e : LetterE
  pub f : LetterF
  pub g : LetterG
  pub h : LetterH
  pub i : LetterI
  pub j : LetterJ
  pub k : LetterK
  pub l : LetterL

-- Every kind, every answer and every letter but X, of five boards. The third is faulty, the fourth never starts.
abbrev pub every_kind : List ℕ
every_kind =
    5 ∷ 0 ∷ 0 ∷ 1 ∷ 0 ∷ 0 ∷ 0 ∷ 32
    ∷ 0 ∷ 1 ∷ 0 ∷ 0 ∷ 0 ∷ 0
    ∷ 1 ∷ 6 ∷ 0 ∷ 0 ∷ 2 ∷ 188
    ∷ 1 ∷ 1 ∷ 0 ∷ 0 ∷ 0 ∷ 0
    ∷ 1 ∷ 3 ∷ 0 ∷ 0 ∷ 2 ∷ 188
    ∷ 5 ∷ 1 ∷ 1 ∷ 0 ∷ 0 ∷ 0
    ∷ 2 ∷ 1 ∷ 0 ∷ 0 ∷ 0 ∷ 0
    ∷ 1 ∷ 1 ∷ 0 ∷ 0 ∷ 2 ∷ 188
    ∷ 2 ∷ 1 ∷ 0 ∷ 0 ∷ 0 ∷ 0
    ∷ 2 ∷ 1 ∷ 0 ∷ 0 ∷ 0 ∷ 0
    ∷ 2 ∷ 1 ∷ 0 ∷ 0 ∷ 0 ∷ 0
    ∷ 7 ∷ 3 ∷ 0 ∷ 2 ∷ 2 ∷ 188
    ∷ 7 ∷ 3 ∷ 0 ∷ 2 ∷ 2 ∷ 188
    ∷ 3 ∷ 1 ∷ 3 ∷ 2 ∷ 2 ∷ 189
    ∷ 3 ∷ 1 ∷ 3 ∷ 2 ∷ 2 ∷ 188
    ∷ 3 ∷ 1 ∷ 3 ∷ 2 ∷ 2 ∷ 188
    ∷ 1 ∷ 2 ∷ 0 ∷ 0 ∷ 2 ∷ 189
    ∷ 3 ∷ 2 ∷ 1 ∷ 1 ∷ 2 ∷ 188
    ∷ 2 ∷ 2 ∷ 0 ∷ 0 ∷ 0 ∷ 0
    ∷ 2 ∷ 2 ∷ 0 ∷ 0 ∷ 0 ∷ 0
    ∷ 3 ∷ 1 ∷ 2 ∷ 2 ∷ 2 ∷ 188
    ∷ 5 ∷ 1 ∷ 2 ∷ 0 ∷ 0 ∷ 0
    ∷ 6 ∷ 1 ∷ 2 ∷ 0 ∷ 0 ∷ 0
    ∷ 5 ∷ 1 ∷ 4 ∷ 0 ∷ 0 ∷ 0
    ∷ 5 ∷ 1 ∷ 5 ∷ 0 ∷ 0 ∷ 0
    ∷ 2 ∷ 1 ∷ 0 ∷ 0 ∷ 0 ∷ 0
    ∷ 2 ∷ 1 ∷ 0 ∷ 0 ∷ 0 ∷ 0
    ∷ 4 ∷ 2 ∷ 4 ∷ 1 ∷ 2 ∷ 188
    ∷ 4 ∷ 2 ∷ 1 ∷ 1 ∷ 2 ∷ 188
    ∷ 3 ∷ 2 ∷ 1 ∷ 2 ∷ 2 ∷ 188
    ∷ 3 ∷ 2 ∷ 3 ∷ 2 ∷ 2 ∷ 188
    ∷ 4 ∷ 2 ∷ 1 ∷ 1 ∷ 2 ∷ 188
    ∷ 1 ∷ 5 ∷ 0 ∷ 0 ∷ 2 ∷ 190
    ∷ []

abbrev pub every_print : List ℕ
every_print =
    codes "1 10\n2 11\n3 12\n4 13\n5 14\n6 15\n7 0\n8 0\n9 0\n10 22\n11 0\n12 18\n13 17\n14 0\n15 19\n16 0\n17 0\n"
    ++ codes "18 0\n19 0\n20 0\n21 0\n22 0\n23 0\n24 0\n25 0\n26 16\n27 20\n28 21\n29 0\n30 0\n31 0\n32 0\n1 D 1 700\n"
    ++ codes "2 D 1 700\n3 F 0 0\n4 N 0 0\n5 W 1 702\n"

-- The letter X. Of two boards the second is faulty and votes blank in every round, so the first, which suspects it all along,
-- never has the two ballots that it needs; after round 32 it is spent. A round's ballot has identifier i.
abbrev blank_round : ℕ → List ℕ
blank_round i =
    7 ∷ 2 ∷ 0 ∷ i ∷ 0 ∷ 0
    ∷ 3 ∷ 1 ∷ 2 ∷ i ∷ 0 ∷ 0
    ∷ 2 ∷ 1 ∷ 0 ∷ 0 ∷ 0 ∷ 0
    ∷ 2 ∷ 1 ∷ 0 ∷ 0 ∷ 0 ∷ 0
    ∷ 2 ∷ 1 ∷ 0 ∷ 0 ∷ 0 ∷ 0
    ∷ []

abbrev pub spent_board : List ℕ
spent_board =
    2 ∷ 0 ∷ 1 ∷ 0 ∷ 162
    ∷ 1 ∷ 1 ∷ 0 ∷ 0 ∷ 2 ∷ 188
    ∷ 5 ∷ 1 ∷ 2 ∷ 0 ∷ 0 ∷ 0
    ∷ flat_map
    blank_round
    (2 ∷ 4 ∷ 6 ∷ 8 ∷ 10 ∷ 12 ∷ 14 ∷ 16 ∷ 18 ∷ 20 ∷ 22 ∷ 24 ∷ 26 ∷ 28 ∷ 30 ∷ 32 ∷ 34 ∷ 36 ∷ 38 ∷ 40 ∷ 42 ∷ 44 ∷ 46 ∷ 48 ∷ 50 ∷ 52 ∷ 54 ∷ 56 ∷ 58 ∷ 60 ∷ 62 ∷ 64 ∷ [])

abbrev pub spent_print : List ℕ
spent_print =
    codes "1 0\n2 0\n3 0\n4 0\n5 0\n6 0\n7 0\n8 0\n9 0\n10 0\n11 0\n12 0\n13 0\n14 0\n15 0\n16 0\n17 0\n18 0\n"
    ++ codes "19 0\n20 0\n21 0\n22 0\n23 0\n24 0\n25 0\n26 0\n27 0\n28 0\n29 0\n30 0\n31 0\n32 0\n33 0\n34 0\n35 0\n"
    ++ codes "36 0\n37 0\n38 0\n39 0\n40 0\n41 0\n42 0\n43 0\n44 0\n45 0\n46 0\n47 0\n48 0\n49 0\n50 0\n51 0\n52 0\n"
    ++ codes "53 0\n54 0\n55 0\n56 0\n57 0\n58 0\n59 0\n60 0\n61 0\n62 0\n63 0\n64 0\n65 0\n66 0\n67 0\n68 0\n69 0\n"
    ++ codes "70 0\n71 0\n72 0\n73 0\n74 0\n75 0\n76 0\n77 0\n78 0\n79 0\n80 0\n81 0\n82 0\n83 0\n84 0\n85 0\n86 0\n"
    ++ codes "87 0\n88 0\n89 0\n90 0\n91 0\n92 0\n93 0\n94 0\n95 0\n96 0\n97 0\n98 0\n99 0\n100 0\n101 0\n102 0\n"
    ++ codes "103 0\n104 0\n105 0\n106 0\n107 0\n108 0\n109 0\n110 0\n111 0\n112 0\n113 0\n114 0\n115 0\n116 0\n"
    ++ codes "117 0\n118 0\n119 0\n120 0\n121 0\n122 0\n123 0\n124 0\n125 0\n126 0\n127 0\n128 0\n129 0\n130 0\n"
    ++ codes "131 0\n132 0\n133 0\n134 0\n135 0\n136 0\n137 0\n138 0\n139 0\n140 0\n141 0\n142 0\n143 0\n144 0\n"
    ++ codes "145 0\n146 0\n147 0\n148 0\n149 0\n150 0\n151 0\n152 0\n153 0\n154 0\n155 0\n156 0\n157 0\n158 0\n"
    ++ codes "159 0\n160 0\n161 0\n162 0\n1 X 32 700\n2 F 0 0\n"

-- one board that proposes the highest value, which has five digits
abbrev pub highest_value : List ℕ
highest_value =
    1 ∷ 0 ∷ 0 ∷ 4
    ∷ 1 ∷ 1 ∷ 0 ∷ 0 ∷ 255 ∷ 255
    ∷ 2 ∷ 1 ∷ 0 ∷ 0 ∷ 0 ∷ 0
    ∷ 2 ∷ 1 ∷ 0 ∷ 0 ∷ 0 ∷ 0
    ∷ 2 ∷ 1 ∷ 0 ∷ 0 ∷ 0 ∷ 0
    ∷ []

pub record PlayedFiles : Type 0 where
  pub every : printed limits every_kind ≡ every_print
  pub spent : printed limits spent_board ≡ spent_print
  pub highest : printed limits highest_value ≡ codes "1 0\n2 0\n3 0\n4 0\n1 D 1 65535\n"

-- Refused files, by the number that each prints: what is there ends too early; no number of boards; a mark that is none, though
-- the next is not there; a count of 4,097 events, or of 65,535, though none is there; and bytes left over.
pub record RefusedFiles : Type 0 where
  pub empty : printed limits [] ≡ codes "refused 1\n"
  pub no-mark-there : printed limits (1 ∷ []) ≡ codes "refused 1\n"
  pub half-count : printed limits (1 ∷ 0 ∷ 16 ∷ []) ≡ codes "refused 1\n"
  pub no-event-there : printed limits (1 ∷ 0 ∷ 16 ∷ 0 ∷ []) ≡ codes "refused 1\n"
  pub cut-event : printed limits (1 ∷ 0 ∷ 0 ∷ 1 ∷ 1 ∷ 1 ∷ 0 ∷ 0 ∷ 2 ∷ []) ≡ codes "refused 1\n"
  pub no-boards : printed limits (0 ∷ []) ≡ codes "refused 2\n"
  pub eight-boards : printed limits (8 ∷ []) ≡ codes "refused 2\n"
  pub nine-boards : printed limits (9 ∷ []) ≡ codes "refused 2\n"
  pub mark-two : printed limits (1 ∷ 2 ∷ []) ≡ codes "refused 3\n"
  pub mark-nine : printed limits (2 ∷ 9 ∷ []) ≡ codes "refused 3\n"
  pub too-many : printed limits (1 ∷ 0 ∷ 16 ∷ 1 ∷ []) ≡ codes "refused 4\n"
  pub most-of-all : printed limits (1 ∷ 0 ∷ 255 ∷ 255 ∷ []) ≡ codes "refused 4\n"
  pub left-over : printed limits (1 ∷ 0 ∷ 0 ∷ 0 ∷ 0 ∷ []) ≡ codes "refused 5\n"
