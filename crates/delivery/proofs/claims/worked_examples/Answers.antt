-- Each example has its law. Assumes nothing.
use Rattle.delivery.proofs.ExampleLaws as example
use Rattle.delivery.proofs.claims.worked_examples.Goals as goal

pub returns : goal.returns
returns c =
    record {
      letter_a = example.letter-a;
      letter_b = example.letter-b;
      letter_c = example.letter-c;
      letter_e = example.letter-e;
      letter_f = example.letter-f;
      letter_g = example.letter-g;
      letter_h = example.letter-h;
      letter_i = example.letter-i;
      letter_j = example.letter-j;
      letter_k = example.letter-k;
      other_sizes = example.other-sizes;
      coordinators = example.coordinators;
      identifiers = example.identifiers_of_rounds;
      next_rounds = example.next-rounds;
      masks = example.masks;
      places = example.places;
      copies = example.copies;
    }
