-- The text of counts and of lines of numbers, piece by piece.
use Rattle.std.proofs.Common.{◌≡◌, ℕ, ◌<◌, List, [], ◌∷◌, ◌++◌, length, refl, sym, ap, ◌∙◌, append_assoc, length-append, arith}
use Rattle.std.specs.List.{AllByRecursion, flat_map}
use Rattle.std.proofs.lemmas.List.{flat_map_more}
use Rattle.std.specs.Prelude.{decimal}
use Rattle.clru_text.specs.Samples.{fnv}
use Rattle.clru_parts.specs.Files.{Fits, PartFile, block_text, body_text, counts_text, head_text, number_line, part_text}
use Rattle.clru_parts.specs.declared.part.Counts.{Counts}

counts_with : ℕ → ℕ → ℕ → Counts
counts_with one_in requests bytes = record { one_in = one_in; requests = requests; bytes = bytes }

pub counts-are : (counts : Counts) (one_in requests bytes : ℕ) → one_in ≡ counts.one_in → requests ≡ counts.requests → bytes ≡ counts.bytes
    → record { one_in = one_in; requests = requests; bytes = bytes } ≡ counts
unfolding counts_with
counts-are counts one_in requests bytes a b c =
    ap (λ n. counts_with n requests bytes) a ∙ ap (λ n. counts_with counts.one_in n bytes) b
    ∙ ap (λ n. counts_with counts.one_in counts.requests n) c

pub counts_text-cut : (bytes : List ℕ) (counts : Counts) (rest : List ℕ) → bytes ≡ counts_text counts ++ rest
    → bytes ≡ head_text ++ (number_line counts.one_in ++ (number_line counts.requests ++ (number_line counts.bytes ++ rest)))
counts_text-cut bytes counts rest is =
    let a = number_line counts.one_in in
    let b = number_line counts.requests in
    let c = number_line counts.bytes in
    is ∙ append_assoc head_text (a ++ (b ++ c)) rest
    ∙ ap (λ l. head_text ++ l) (append_assoc a (b ++ c) rest ∙ ap (λ l. a ++ l) (append_assoc b c rest))

-- lines of numbers, one more of which was read
pub lines_more : (text items items' left rest : List ℕ) (n : ℕ) → text ≡ flat_map number_line items ++ left
    → left ≡ number_line n ++ rest → items' ≡ items ++ n ∷ [] → text ≡ flat_map number_line items' ++ rest
lines_more text items items' left rest n is next pushed =
    is ∙ ap (λ l. flat_map number_line items ++ l) next ∙ sym (append_assoc (flat_map number_line items) (number_line n) rest)
    ∙ ap (λ l. l ++ rest) (flat_map_more number_line [] items n) ∙ ap (λ l. flat_map number_line l ++ rest) (sym pushed)

-- a number that the rest of the lines begins with
pub record HasNext (left more : List ℕ) : Type 0 where
  pub n : ℕ
  pub rest : List ℕ
  pub fits : Fits n
  pub all : AllByRecursion Fits rest
  pub are : more ≡ n ∷ rest
  pub begins : left ≡ number_line n ++ flat_map number_line rest

pub next_of : (left more : List ℕ) → 0 < length left → AllByRecursion Fits more → left ≡ flat_map number_line more → HasNext left more
next_of left [] some all is = absurd (omega (arith, ap length is))
next_of left (n ∷ rest) some all is = record { n = n; rest = rest; fits = all.0; all = all.1; are = refl; begins = is }

pub none_left : (left more : List ℕ) → length left ≡ 0 → left ≡ flat_map number_line more → more ≡ []
none_left left [] empty is = refl
none_left left (n ∷ rest) empty is =
    absurd (omega (arith, ap length is, length-append (number_line n) (flat_map number_line rest), length-append (decimal n) (10 ∷ [])))

pub lines_moved : (numbers items items' more rest : List ℕ) (n m : ℕ) → numbers ≡ items ++ more → more ≡ n ∷ rest → m ≡ n
    → items' ≡ items ++ m ∷ [] → numbers ≡ items' ++ rest
lines_moved numbers items items' more rest n m are next same pushed =
    are ∙ ap (λ l. items ++ l) next ∙ sym (append_assoc items (n ∷ []) rest)
    ∙ ap (λ l. l ++ rest) (sym (pushed ∙ ap (λ k. items ++ k ∷ []) same))

-- what is appended in four steps
pub pushed_four : (t0 t1 t2 t3 t4 a b c d : List ℕ) → t1 ≡ t0 ++ a → t2 ≡ t1 ++ b → t3 ≡ t2 ++ c → t4 ≡ t3 ++ d
    → t4 ≡ t0 ++ (a ++ (b ++ (c ++ d)))
pushed_four t0 t1 t2 t3 t4 a b c d e1 e2 e3 e4 =
    e4 ∙ ap (λ l. l ++ d) (e3 ∙ ap (λ l. l ++ c) (e2 ∙ ap (λ l. l ++ b) e1))
    ∙ append_assoc ((t0 ++ a) ++ b) c d ∙ append_assoc (t0 ++ a) b (c ++ d) ∙ append_assoc t0 a (b ++ (c ++ d))

pub four_cut : (a b c d rest : List ℕ) → (a ++ (b ++ (c ++ d))) ++ rest ≡ a ++ (b ++ (c ++ (d ++ rest)))
four_cut a b c d rest =
    append_assoc a (b ++ (c ++ d)) rest
    ∙ ap (λ l. a ++ l) (append_assoc b (c ++ d) rest ∙ ap (λ l. b ++ l) (append_assoc c d rest))

-- what is read in four steps
pub read_four : (bytes a r1 b r2 c r3 d r4 : List ℕ) → bytes ≡ a ++ r1 → r1 ≡ b ++ r2 → r2 ≡ c ++ r3 → r3 ≡ d ++ r4
    → bytes ≡ (a ++ (b ++ (c ++ d))) ++ r4
read_four bytes a r1 b r2 c r3 d r4 e1 e2 e3 e4 =
    e1 ∙ ap (λ l. a ++ l) (e2 ∙ ap (λ l. b ++ l) (e3 ∙ ap (λ l. c ++ l) e4)) ∙ sym (four_cut a b c d r4)

-- the body of a part's text, and what stands behind it
pub part_text-cut : (bytes : List ℕ) (file : PartFile) (rest : List ℕ) → bytes ≡ part_text file ++ rest
    → bytes ≡ body_text file ++ (number_line (fnv (body_text file)) ++ rest)
part_text-cut bytes file rest is = is ∙ append_assoc (body_text file) (number_line (fnv (body_text file))) rest

pub part_text-pieces : (bytes : List ℕ) (file : PartFile) (rest : List ℕ) → bytes ≡ part_text file ++ rest
    → bytes ≡ counts_text file.counts ++ (block_text file.first ++ (block_text file.latest
    ++ (block_text (flat_map number_line file.curve) ++ (number_line (fnv (body_text file)) ++ rest))))
part_text-pieces bytes file rest is =
    part_text-cut bytes file rest is
    ∙ four_cut (counts_text file.counts) (block_text file.first) (block_text file.latest) (block_text (flat_map number_line file.curve))
    (number_line (fnv (body_text file)) ++ rest)

pub part_text-read : (bytes body r4 rest : List ℕ) (file : PartFile) → bytes ≡ body ++ r4 → r4 ≡ number_line (fnv body) ++ rest
    → body_text file ≡ body → bytes ≡ part_text file ++ rest
part_text-read bytes body r4 rest file is checked same =
    is ∙ ap (λ l. body ++ l) checked ∙ sym (append_assoc body (number_line (fnv body)) rest)
    ∙ ap (λ b. (b ++ number_line (fnv b)) ++ rest) (sym same)

file_with : List ℕ → Counts → List ℕ → List ℕ → PartFile
file_with curve counts first latest = record { counts = counts; first = first; latest = latest; curve = curve }

pub file-is : (file read : PartFile) (counts : Counts) (first latest : List ℕ)
    → read ≡ record { counts = counts; first = first; latest = latest; curve = file.curve }
    → counts ≡ file.counts → first ≡ file.first → latest ≡ file.latest → read ≡ file
unfolding file_with
file-is file read counts first latest is a b c =
    is ∙ ap (λ x. file_with file.curve x first latest) a ∙ ap (λ x. file_with file.curve file.counts x latest) b
    ∙ ap (λ x. file_with file.curve file.counts file.first x) c
