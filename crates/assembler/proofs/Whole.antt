-- The first pass against the labels of a program, and what a program without a fault is.
use Rattle.std.proofs.Common.{◌≡◌, ℕ, ◌+◌, ◌≤◌, ◌<◌, ◌^◌, Bool, true, false, cond, ltb, List, [], ◌∷◌, ◌++◌, length, refl, sym, ap, subst, ◌∙◌, append_assoc, append-nil, arith, true≢false}
use Rattle.std.specs.Prelude.{Option, Some, None, is_some, bytes_eq}
use Rattle.std.specs.Option.{option_map_or}
use Rattle.std.proofs.lemmas.Bool.{and_parts, and_from, lt-ltb, ltb-false}
use Rattle.std.proofs.lemmas.Slice.Eq.{bytes_eq-Decides}
use Rattle.std.proofs.lemmas.List.{length-append}
use Rattle.asm_items.specs.declared.item.AsmItem.{AsmItem}
use Rattle.asm_items.specs.declared.item.AsmItem.TheVariants.{Label, Op, Integer, Pointer}
use Rattle.asm_items.specs.Words.{item_words, words_of_items}
use Rattle.asm_reader.specs.declared.error.AsmFault.{AsmFault}
use Rattle.assembler.specs.Labels.{address_of, address_in, has_label, are_words}
use Rattle.assembler.specs.Naming.{is_known, named_in}
use Rattle.assembler.specs.Placed.{item_size, label_at, labels_from, labels_of, Placed}
use Rattle.assembler.specs.Sizes.{total_size}
use Rattle.assembler.specs.Faults.{fault_at, label_in, with_name, twice_from, past_from, unknown_from, naming_fault, or_past, fault_of}
use Rattle.assembler.specs.inner.Survey.{with_item, collected, has_item, names_of}
use Rattle.assembler.proofs.Walking.{among, names_more}
use Rattle.assembler.proofs.ItemSizes.{op_size}

-- ---- the same names

pub has_append : (xs ys : List (List ℕ × ℕ)) (name : List ℕ) → has_label (xs ++ ys) name ≡ cond (has_label xs name) true (has_label ys name)
has_append [] ys name = refl
has_append (x ∷ xs) ys name = elim (bytes_eq name x.0) as (λ b. is_some (cond b (Some x.1) (address_of (xs ++ ys) name)) ≡ cond (is_some (cond b (Some x.1) (address_of xs name))) true (has_label ys name)) [
  | true ↦ refl
  | false ↦ has_append xs ys name
]

-- a name that is there already changes nothing
again : (has other : Bool) (b : Bool) → (b ≡ true → has ≡ true) → cond has true other ≡ cond has true (cond b true other)
again true other b h = refl
again false other true h = absurd (true≢false (sym (h refl)))
again false other false h = refl

same_has : (labels : List (List ℕ × ℕ)) (name other : List ℕ) → has_label labels name ≡ true → bytes_eq other name ≡ true → has_label labels other ≡ true
same_has labels name other there same = let e : other ≡ name = (bytes_eq-Decides other name).0 same in subst (λ (n : List ℕ). has_label labels n ≡ true) (sym e) there

one_more : (labels rest : List (List ℕ × ℕ)) (name other : List ℕ) (address : ℕ) (b : Bool) → has_label labels name ≡ b →
    has_label (cond b labels (labels ++ (name, address) ∷ []) ++ rest) other ≡ has_label (labels ++ (name, address) ∷ rest) other
one_more labels rest name other address true there =
    has_append labels rest other ∙ again (has_label labels other) (has_label rest other) (bytes_eq other name) (same_has labels name other there)
    ∙ ap (λ x. cond (has_label labels other) true x) (first_of (bytes_eq other name)) ∙ sym (has_append labels ((name, address) ∷ rest) other)
  where
    first_of : (b : Bool) → cond b true (has_label rest other) ≡ is_some (cond b (Some address) (address_of rest other))
    first_of true = refl
    first_of false = refl
one_more labels rest name other address false there = ap (λ (ls : List (List ℕ × ℕ)). has_label ls other) (append_assoc labels ((name, address) ∷ []) rest)

item_more : (labels rest : List (List ℕ × ℕ)) (item : AsmItem) (address : ℕ) (other : List ℕ) →
    has_label (with_item labels (label_in item) address ++ rest) other ≡ has_label (labels ++ (label_at address item ++ rest)) other
item_more labels rest (Label name) address other = one_more labels rest name other address (has_label labels name) refl
item_more labels rest (Op i) address other = refl
item_more labels rest (Integer w) address other = refl
item_more labels rest (Pointer name) address other = refl

same_names : (items : List AsmItem) (address : ℕ) (labels : List (List ℕ × ℕ)) (other : List ℕ) → has_label (collected address labels items) other ≡ has_label (labels ++ labels_from address items) other
unfolding collected labels_from
same_names [] address labels other = ap (λ (ls : List (List ℕ × ℕ)). has_label ls other) (sym (append-nil labels))
same_names (item ∷ items) address labels other =
    same_names items (address + item_size item) (with_item labels (label_in item) address) other ∙ item_more labels (labels_from (address + item_size item) items) item address other

by_name : (one two : List (List ℕ × ℕ)) → ((name : List ℕ) → has_label one name ≡ has_label two name) → (name : Option (List ℕ)) → option_map_or (has_label one) name true ≡ option_map_or (has_label two) name true
by_name one two same None = refl
by_name one two same (Some name) = same name

unknown_same : (one two : List (List ℕ × ℕ)) → ((name : List ℕ) → has_label one name ≡ has_label two name) → (number : ℕ) (items : List AsmItem) → unknown_from number one items ≡ unknown_from number two items
unfolding unknown_from
unknown_same one two same number [] = refl
unknown_same one two same number (item ∷ items) =
    ap (λ b. cond b (unknown_from (number + 1) one items) (Some number)) (by_name one two same (named_in item))
    ∙ ap (λ later. cond (is_known two item) later (Some number)) (unknown_same one two same (number + 1) items)

pub fault_is : (items : List AsmItem) (labels : List (List ℕ × ℕ)) (twice unknown past : Option ℕ) (fault : Option AsmFault) →
    labels ≡ collected 0x20000000 [] items → twice ≡ twice_from 1 [] items → unknown ≡ unknown_from 1 labels items → past ≡ past_from 1 0 items →
    fault ≡ or_past (naming_fault twice unknown) past → fault ≡ fault_of items
unfolding fault_of
fault_is items labels twice unknown past fault labels_are twice_is unknown_is past_is is =
    let known : unknown_from 1 labels items ≡ unknown_from 1 (labels_of items) items =
    ap (λ (ls : List (List ℕ × ℕ)). unknown_from 1 ls items) labels_are ∙ unknown_same (collected 0x20000000 [] items) (labels_of items) (same_names items 0x20000000 []) 1 items in
    is ∙ rw (twice_is, unknown_is, past_is, known) refl

-- ---- no fault

no_fault : (twice unknown past : Option ℕ) → or_past (naming_fault twice unknown) past ≡ None → (twice ≡ None) × (past ≡ None)
no_fault None None None e = (refl, refl)
no_fault None None (Some p) e = absurd cc
no_fault None (Some u) past e = absurd cc
no_fault (Some t) None past e = absurd cc
no_fault (Some t) (Some u) past e = elim (ltb t u) as (λ b. or_past (cond b (Some (fault_at 64 t)) (Some (fault_at 65 u))) past ≡ None → (Some t ≡ None) × (past ≡ None)) [
  | true ↦ λ h. absurd cc
  | false ↦ λ h. absurd cc
] e

pub faultless : (items : List AsmItem) → fault_of items ≡ None → (twice_from 1 [] items ≡ None) × (past_from 1 0 items ≡ None)
unfolding fault_of
faultless items e = no_fault (twice_from 1 [] items) (unknown_from 1 (labels_of items) items) (past_from 1 0 items) e

fits : (items : List AsmItem) (number words : ℕ) → words ≤ 33554432 → past_from number words items ≡ None → words + total_size items ≤ 33554432
unfolding past_from total_size
fits [] number words few e = omega (arith, few)
fits (item ∷ items) number words few e = elim (ltb 33554432 (words + item_size item)) as (λ b. ltb 33554432 (words + item_size item) ≡ b → cond b (Some number) (past_from (number + 1) (words + item_size item) items) ≡ None → words + total_size (item ∷ items) ≤ 33554432) [
  | true ↦ λ is h. absurd cc
  | false ↦ λ is h. let more = fits items (number + 1) (words + item_size item) (ltb-false _ _ is) h in omega (arith, more)
] refl e

pub within : (items : List AsmItem) → fault_of items ≡ None → total_size items ≤ 33554432
within items e = let few = fits items 1 0 (omega arith) (faultless items e).1 in omega (arith, few)

-- as many words as the sizes are together, wherever labels stand
item_words_size : (address : List ℕ → ℕ) (item : AsmItem) → length (item_words address item) ≡ item_size item
item_words_size address (Label name) = refl
item_words_size address (Op i) = op_size address i ∙ sym (op_size (λ name. 0) i)
item_words_size address (Integer w) = refl
item_words_size address (Pointer name) = refl

words_size : (address : List ℕ → ℕ) (items : List AsmItem) → length (words_of_items address items) ≡ total_size items
unfolding total_size
words_size address [] = refl
words_size address (item ∷ items) =
    length-append (item_words address item) (words_of_items address items) ∙ rw (item_words_size address item, words_size address items) refl

pub few_words : (items : List AsmItem) (words : List ℕ) (labels : List (List ℕ × ℕ)) → Placed items words labels → fault_of items ≡ None → length words ≤ 33554432
few_words items words labels placed none =
    let few = within items none in
    let size : length words ≡ total_size items = ap length placed.words_are ∙ words_size (address_in labels) items in
    omega (arith, few, size)

-- ---- addresses are words

are_append : (xs ys : List (List ℕ × ℕ)) → are_words xs ≡ true → are_words ys ≡ true → are_words (xs ++ ys) ≡ true
are_append [] ys h k = k
are_append (x ∷ xs) ys h k = let both = and_parts (ltb x.1 (2 ^ 32)) (are_words xs) h in and_from (ltb x.1 (2 ^ 32)) (are_words (xs ++ ys)) both.0 (are_append xs ys both.1 k)

are_with : (labels : List (List ℕ × ℕ)) (name : Option (List ℕ)) (address : ℕ) → address < 2 ^ 32 → are_words labels ≡ true → are_words (with_item labels name address) ≡ true
are_with labels None address small all = all
are_with labels (Some name) address small all = elim (has_label labels name) as (λ b. are_words (cond b labels (labels ++ (name, address) ∷ [])) ≡ true) [
  | true ↦ all
  | false ↦ are_append labels ((name, address) ∷ []) all (and_from (ltb address (2 ^ 32)) true (lt-ltb address (2 ^ 32) small) refl)
]

all_words : (items : List AsmItem) (address : ℕ) (labels : List (List ℕ × ℕ)) → address + total_size items ≤ 570425344 → are_words labels ≡ true → are_words (collected address labels items) ≡ true
unfolding collected total_size
all_words [] address labels room all = all
all_words (item ∷ items) address labels room all =
    all_words items (address + item_size item) (with_item labels (label_in item) address) (omega (arith, room)) (are_with labels (label_in item) address (omega (arith, room)) all)

pub are_addresses : (items : List AsmItem) (labels : List (List ℕ × ℕ)) → labels ≡ collected 0x20000000 [] items → fault_of items ≡ None → are_words labels ≡ true
are_addresses items labels is e = rw is (all_words items 0x20000000 [] (omega (arith, within items e)) refl)

-- ---- the labels

pub goes_last : (labels : List (List ℕ × ℕ)) (item : AsmItem) (address : ℕ) → has_item labels (label_in item) ≡ false → with_item labels (label_in item) address ≡ labels ++ label_at address item
goes_last labels (Label name) address absent = rw absent refl
goes_last labels (Op i) address absent = sym (append-nil labels)
goes_last labels (Integer w) address absent = sym (append-nil labels)
goes_last labels (Pointer name) address absent = sym (append-nil labels)

module _ (items : List AsmItem) (item : AsmItem) (number address : ℕ) (labels : List (List ℕ × ℕ)) where
  abbrev later : ℕ → List (List ℕ × ℕ) → List (List ℕ × ℕ)
  later at before = collected at before items

  by_known : (b : Bool) → has_item labels (label_in item) ≡ b → cond b (Some number) (twice_from (number + 1) (with_name (names_of labels) (label_in item)) items) ≡ None →
      (twice_from (number + 1) (names_of (with_item labels (label_in item) address)) items ≡ None → collected (address + item_size item) (with_item labels (label_in item) address) items ≡ with_item labels (label_in item) address ++ labels_from (address + item_size item) items) →
      collected (address + item_size item) (with_item labels (label_in item) address) items ≡ labels ++ (label_at address item ++ labels_from (address + item_size item) items)
  by_known true is h rest = absurd cc
  by_known false is h rest =
      rest (ap (λ ns. twice_from (number + 1) ns items) (names_more labels (label_in item) address is) ∙ h)
      ∙ ap (λ (ls : List (List ℕ × ℕ)). ls ++ labels_from (address + item_size item) items) (goes_last labels item address is)
      ∙ append_assoc labels (label_at address item) (labels_from (address + item_size item) items)

once : (items : List AsmItem) (number address : ℕ) (labels : List (List ℕ × ℕ)) → twice_from number (names_of labels) items ≡ None → collected address labels items ≡ labels ++ labels_from address items
unfolding twice_from collected labels_from
once [] number address labels e = sym (append-nil labels)
once (item ∷ items) number address labels e =
    by_known items item number address labels (has_item labels (label_in item)) refl
    (ap (λ b. cond b (Some number) (twice_from (number + 1) (with_name (names_of labels) (label_in item)) items)) (sym (among labels (label_in item))) ∙ e)
    (once items (number + 1) (address + item_size item) (with_item labels (label_in item) address))

pub placed : (items : List AsmItem) (known labels : List (List ℕ × ℕ)) (words : List ℕ) → fault_of items ≡ None → known ≡ collected 0x20000000 [] items →
    words ≡ words_of_items (address_in known) items → labels ≡ labels_from 0x20000000 items → Placed items words labels
placed items known labels words e known_is words_are labels_are =
    let all : known ≡ labels = known_is ∙ once items 1 0x20000000 [] (faultless items e).0 ∙ sym labels_are in
    record { labels_are = labels_are; words_are = words_are ∙ ap (λ (ls : List (List ℕ × ℕ)). words_of_items (address_in ls) items) all }
