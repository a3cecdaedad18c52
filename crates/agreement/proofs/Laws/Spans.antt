-- A block spans what its instructions were read from: whoever reads as many instructions as it counts, of any run that has the same
-- there, reads the same.
use Rattle.std.proofs.Common.{◌≡◌, refl, sym, ap, ◌∙◌, Bool, true, false, List, [], ◌∷◌, ℕ, zero, suc, ◌+◌, ◌*◌, ◌≤◌, ◌≢◌, true≢false, arith, length, take}
use Rattle.std.specs.Prelude.{Option, None, Some}
use Rattle.std.proofs.Common.{subst, drop}
use Rattle.agreement.specs.Common.{Helper.for_halfword}
use Rattle.agreement.specs.Riscv.Fields.{plus}
use Rattle.agreement.specs.Riscv.Instruction.{Instruction}
use Rattle.agreement.specs.Riscv.Instruction.Instruction.{op, op_imm, branch, access, unmodelled, LUI, AUIPC, JAL, JALR, FENCE, FENCE_I, other}
use Rattle.agreement.specs.Riscv.Run.{Read, Registers, does, does_halfword, first_refused, halt, in_line, is_in_line, is_long, is_not_taken, one_more, reading, taken, word_of}
use Rattle.agreement.specs.Translation.Walk.{End, End.goes_on, End.jumped, End.calls, Walked, walk, emit, helps, stops_at, counted, emit_halfword, emit_word}
use Rattle.agreement.specs.Laws.{Halfwords}
use Rattle.agreement.proofs.Laws.Fields.{long_is, word_of_is}
use Rattle.agreement.proofs.Laws.Naming.{kind_is}
use Rattle.agreement.proofs.Laws.Expanding.{expand_is, in_line_listed}
use Rattle.agreement.proofs.Laws.Runs.{halfwords_drop, halfwords_tail}

-- p is the walk over at most n instructions of the run hs, and spans so many halfwords of it
pub record Spanning (n pc : ℕ) (hs : List ℕ) (p : Walked) : Type 0 where
  pub halfwords : ℕ
  pub is : p.span ≡ 2 * halfwords
  pub within : halfwords ≤ length hs
  pub least : counted p.end p.added ≤ halfwords
  pub most : halfwords ≤ 2 * counted p.end p.added
  pub few : counted p.end p.added ≤ n
  pub reads : (hs' : List ℕ) (x : Registers) → take halfwords hs' ≡ take halfwords hs
      → reading (counted p.end p.added) pc hs' x ≡ reading n pc hs x
  -- it counts an instruction where the first one is taken, which it then is of the other run too
  pub begins : n ≢ 0 → first_refused hs ≡ false → counted p.end p.added ≢ 0
  pub accepts : (hs' : List ℕ) → counted p.end p.added ≢ 0 → take halfwords hs' ≡ take halfwords hs → first_refused hs' ≡ false

counted-suc : (e : End) (n : ℕ) → counted e (suc n) ≡ suc (counted e n)
unfolding counted
counted-suc (goes_on pc) n = refl
counted-suc jumped n = refl
counted-suc (calls h i pc) n = refl

-- 1. What reads the front of a run

read_half : (n pc h : ℕ) (hs : List ℕ) (x : Registers) → is_long h ≡ false
    → reading (suc n) pc (h ∷ hs) x ≡ does_halfword (in_line h) pc h x (reading n (plus pc 2) hs)
unfolding reading
read_half n pc h hs x e = rw (e, reading) refl

accept_half : (h : ℕ) (hs : List ℕ) → is_long h ≡ false → first_refused (h ∷ hs) ≡ false
unfolding first_refused
accept_half h [] e = e
accept_half h (u ∷ hs) e = rw (e, first_refused) refl

accept_word : (h u : ℕ) (hs : List ℕ) {t : Bool} → is_long h ≡ true → is_not_taken (taken (word_of h u)) ≡ t
    → first_refused (h ∷ u ∷ hs) ≡ t
unfolding first_refused
accept_word h u hs e t = rw (e, first_refused) t

-- the word w, which m halfwords are read as, stands in front of a run, and others behind it
record Stands (m w : ℕ) (hs rest : List ℕ) : Type 0 where
  long : length hs ≡ m + length rest
  read : (n pc : ℕ) (x : Registers)
      → reading (suc n) pc hs x ≡ does (taken w) (2 * m) pc w x (reading n (plus pc (2 * m)) rest)
  begins : is_not_taken (taken w) ≡ false → first_refused hs ≡ false

-- it stands so in front of another run too, which has k more halfwords of the first
record Again (m w k : ℕ) (rest hs' : List ℕ) : Type 0 where
  behind : List ℕ
  stands : Stands m w hs' behind
  same : take k behind ≡ take k rest

Everywhere : ℕ → ℕ → List ℕ → List ℕ → Type 0
Everywhere m w hs rest = (k : ℕ) (hs' : List ℕ) → take (k + m) hs' ≡ take (k + m) hs → Again m w k rest hs'

stands_long : (h u : ℕ) (hs : List ℕ) → is_long h ≡ true → Stands 2 (word_of h u) (h ∷ u ∷ hs) hs
unfolding reading
stands_long h u hs e = record {
  long = omega arith;
  read = λ n pc x. rw (e, reading) refl;
  begins = λ t. accept_word h u hs e t;
}

stands_short : (h w : ℕ) (hs : List ℕ) → is_long h ≡ false → in_line h ≡ Some w → Stands 1 w (h ∷ hs) hs
stands_short h w hs e i = record {
  long = omega arith;
  read = λ n pc x. read_half n pc h hs x e ∙ rw i refl;
  begins = λ t. accept_half h hs e;
}

long_again : (h u : ℕ) (hs : List ℕ) → is_long h ≡ true → (k : ℕ) (hs' : List ℕ) → take (suc (suc k)) hs' ≡ h ∷ u ∷ take k hs
    → Again 2 (word_of h u) k hs hs'
long_again h u hs e k [] s = absurd (cc)
long_again h u hs e k (a ∷ []) s = absurd (cc)
long_again h u hs e k (a ∷ b ∷ l) s =
    let p : h ≡ a = cc in
    let q : u ≡ b = cc in
    let r : take k l ≡ take k hs = cc in
    record {
      behind = l;
      stands = subst (λ y. Stands 2 (word_of h u) (y ∷ b ∷ l) l) p
          (subst (λ y. Stands 2 (word_of h u) (h ∷ y ∷ l) l) q (stands_long h u l e));
      same = r;
    }

short_again : (h w : ℕ) (hs : List ℕ) → is_long h ≡ false → in_line h ≡ Some w → (k : ℕ) (hs' : List ℕ)
    → take (suc k) hs' ≡ h ∷ take k hs → Again 1 w k hs hs'
short_again h w hs e i k [] s = absurd (cc)
short_again h w hs e i k (a ∷ l) s =
    let p : h ≡ a = cc in
    let r : take k l ≡ take k hs = cc in
    record { behind = l; stands = subst (λ y. Stands 1 w (y ∷ l) l) p (stands_short h w l e i); same = r }

long_everywhere : (h u : ℕ) (hs : List ℕ) → is_long h ≡ true → Everywhere 2 (word_of h u) (h ∷ u ∷ hs) hs
unfolding Everywhere
long_everywhere h u hs e k hs' s =
    let n : k + 2 ≡ suc (suc k) = omega arith in
    long_again h u hs e k hs' (subst (λ y. take y hs' ≡ take y (h ∷ u ∷ hs)) n s)

short_everywhere : (h w : ℕ) (hs : List ℕ) → is_long h ≡ false → in_line h ≡ Some w → Everywhere 1 w (h ∷ hs) hs
unfolding Everywhere
short_everywhere h w hs e i k hs' s =
    let n : k + 1 ≡ suc k = omega arith in
    short_again h w hs e i k hs' (subst (λ y. take y hs' ≡ take y (h ∷ hs)) n s)

-- 2. An instruction, and the walk p over what follows it

-- what follows matters only by what it reads
does_alike : (k : Instruction) (z pc w : ℕ) (x : Registers) {a b : Registers → Read} → ((y : Registers) → a y ≡ b y)
    → does k z pc w x a ≡ does k z pc w x b
unfolding does
does_alike (op o) z pc w x h = ap one_more (h _)
does_alike (op_imm o) z pc w x h = ap one_more (h _)
does_alike LUI z pc w x h = ap one_more (h _)
does_alike AUIPC z pc w x h = ap one_more (h _)
does_alike FENCE z pc w x h = ap one_more (h _)
does_alike FENCE_I z pc w x h = refl
does_alike (branch c) z pc w x h = refl
does_alike JAL z pc w x h = refl
does_alike JALR z pc w x h = refl
does_alike (access a) z pc w x h = refl
does_alike (unmodelled u) z pc w x h = refl
does_alike other z pc w x h = refl

-- nothing is read: the walk stops where it is
nothing : (n pc : ℕ) (hs : List ℕ) (q : Walked) → counted q.end q.added ≡ 0 → q.span ≡ 0
    → ((x : Registers) → reading n pc hs x ≡ halt x pc) → (n ≢ 0 → first_refused hs ≡ true) → Spanning n pc hs q
unfolding reading
nothing n pc hs q c s r f = record {
  halfwords = 0;
  is = s;
  within = omega arith;
  least = omega (arith, c);
  most = omega arith;
  few = omega (arith, c);
  reads = λ hs' x e. rw c (sym (r x));
  begins = λ z t. absurd (true≢false (sym (f z) ∙ t));
  accepts = λ hs' z e. absurd (z c);
}

-- `wide`: what is not straight and does not end the block by itself is of a word of 32 bits
module _ (n pc m w : ℕ) (hs rest : List ℕ) (low : 1 ≤ m) (high : m ≤ 2) (at : Stands m w hs rest) (again : Everywhere m w hs rest)
    (wide : is_in_line (taken w) ≡ false → (m ≡ 2) × (first_refused hs ≡ is_not_taken (taken w))) where
  -- it goes on
  goes : (q p : Walked) → q.end ≡ p.end → q.added ≡ suc p.added → q.span ≡ 2 * m + p.span → is_not_taken (taken w) ≡ false
      → Spanning n (plus pc (2 * m)) rest p → Spanning (suc n) pc hs q
  unfolding Everywhere
  goes q p e a d t s =
      let c : counted q.end q.added ≡ suc (counted p.end p.added) = rw (e, a) (counted-suc p.end p.added) in
      record {
        halfwords = s.halfwords + m;
        is = omega (arith, d, s.is);
        within = omega (arith, s.within, at.long);
        least = omega (arith, s.least, c, low);
        most = omega (arith, s.most, c, high);
        few = omega (arith, s.few, c);
        reads = λ hs' x same.
            let f = again s.halfwords hs' same in
            rw c
            (f.stands.read (counted p.end p.added) pc x
            ∙ does_alike (taken w) (2 * m) pc w x (λ y. s.reads f.behind y f.same)
            ∙ sym (at.read n pc x));
        begins = λ z b. omega (arith, c);
        accepts = λ hs' z same. (again s.halfwords hs' same).stands.begins t;
      }

  -- it is the last that counts
  once : (q : Walked) → counted q.end q.added ≡ 1 → q.span ≡ 2 * m → is_not_taken (taken w) ≡ false
      → ((x : Registers) (a b : Registers → Read) → does (taken w) (2 * m) pc w x a ≡ does (taken w) (2 * m) pc w x b)
      → Spanning (suc n) pc hs q
  unfolding Everywhere
  once q c s t d = record {
    halfwords = 0 + m;
    is = omega (arith, s);
    within = omega (arith, at.long);
    least = omega (arith, c, low);
    most = omega (arith, c, high);
    few = omega (arith, c);
    reads = λ hs' x e.
        let f = again 0 hs' e in
        rw c (f.stands.read 0 pc x ∙ d x _ _ ∙ sym (at.read n pc x));
    begins = λ z b. omega (arith, c);
    accepts = λ hs' z e. (again 0 hs' e).stands.begins t;
  }

  instruction : (k : Instruction) (p : Walked) → taken w ≡ k → Spanning n (plus pc (2 * m)) rest p
      → Spanning (suc n) pc hs (emit k (2 * m) pc w p)
  unfolding emit does counted is_not_taken
  instruction (op o) p t s = goes _ p refl refl refl (rw t) s
  instruction (op_imm o) p t s = goes _ p refl refl refl (rw t) s
  instruction LUI p t s = goes _ p refl refl refl (rw t) s
  instruction AUIPC p t s = goes _ p refl refl refl (rw t) s
  instruction FENCE p t s = goes _ p refl refl refl (rw t) s
  instruction FENCE_I p t s = once _ refl refl (rw t) (λ x a b. rw t)
  instruction (branch c) p t s = once _ refl refl (rw t) (λ x a b. rw t)
  instruction JAL p t s = once _ refl refl (rw t) (λ x a b. rw t)
  instruction JALR p t s = once _ refl refl (rw t) (λ x a b. rw t)
  instruction (access a) p t s = once _ refl (omega (arith, (wide (rw t)).0)) (rw t) (λ x b c. rw t)
  instruction (unmodelled o) p t s =
      nothing (suc n) pc hs _ refl refl (λ x. at.read n pc x ∙ rw t) (λ z. (wide (rw t)).1 ∙ rw t)
  instruction other p t s =
      nothing (suc n) pc hs _ refl refl (λ x. at.read n pc x ∙ rw t) (λ z. (wide (rw t)).1 ∙ rw t)

-- 3. The walk

-- a helper takes a halfword
helped : (n pc h : ℕ) (hs : List ℕ) → is_long h ≡ false → in_line h ≡ None → Spanning (suc n) pc (h ∷ hs) (helps for_halfword h pc)
unfolding counted
helped n pc h hs short i = record {
  halfwords = 1;
  is = refl;
  within = omega arith;
  least = omega arith;
  most = omega arith;
  few = omega arith;
  reads = λ hs' x e. read hs' x e;
  begins = λ z b. omega arith;
  accepts = λ hs' z e. accepted hs' e;
}
  where
    read : (hs' : List ℕ) (x : Registers) → take 1 hs' ≡ h ∷ [] → reading 1 pc hs' x ≡ reading (suc n) pc (h ∷ hs) x
    read [] x e = absurd (cc)
    read (a ∷ l) x e =
        let p : a ≡ h = cc in
        rw p (read_half 0 pc h l x short ∙ rw i (sym (read_half n pc h hs x short ∙ rw i refl)))

    accepted : (hs' : List ℕ) → take 1 hs' ≡ h ∷ [] → first_refused hs' ≡ false
    accepted [] e = absurd (cc)
    accepted (a ∷ l) e = let p : a ≡ h = cc in rw p (accept_half h l short)

-- a halfword by what it is read as
halfword : (n pc h : ℕ) (hs : List ℕ) (p : Walked) → is_long h ≡ false → Spanning n (plus pc 2) hs p
    → Spanning (suc n) pc (h ∷ hs) (emit_halfword (in_line h) pc h p)
halfword n pc h hs p short s = go (in_line h) refl
  where
    in_line_taken : (w : ℕ) → in_line h ≡ Some w → is_in_line (taken w) ≡ false
        → ◌≡◌ {A = ℕ} 1 2 × (first_refused (h ∷ hs) ≡ is_not_taken (taken w))
    in_line_taken w i f = absurd (true≢false (sym (in_line_listed h w i).is_straight_or_ends ∙ f))

    go : (o : Option ℕ) → in_line h ≡ o → Spanning (suc n) pc (h ∷ hs) (emit_halfword o pc h p)
    go None i = helped n pc h hs short i
    go (Some w) i = rw (kind_is w)
        (instruction n pc 1 w (h ∷ hs) hs (omega arith) (omega arith) (stands_short h w hs short i) (short_everywhere h w hs short i)
        (in_line_taken w i) (taken w) p refl s)

-- a word, if its upper halfword is there
word : (n pc h : ℕ) (hs : List ℕ) (p : Walked) → Halfwords (h ∷ hs) → is_long h ≡ true → Spanning n (plus pc 4) (drop 1 hs) p
    → Spanning (suc n) pc (h ∷ hs) (emit_word pc h hs p)
unfolding Halfwords counted
word n pc h [] p l long s =
    nothing (suc n) pc (h ∷ []) (stops_at pc) refl refl (λ x. unfold reading in rw (long, reading) refl)
    (λ z. unfold first_refused in long)
word n pc h (u ∷ hs) p l long s =
    rw (word_of_is h u l.0, kind_is (word_of h u))
    (instruction n pc 2 (word_of h u) (h ∷ u ∷ hs) hs (omega arith) (omega arith) (stands_long h u hs long) (long_everywhere h u hs long)
    (λ f. (refl, accept_word h u hs long refl)) (taken (word_of h u)) p refl s)

pub spanning : (n pc : ℕ) (hs : List ℕ) → Halfwords hs → Spanning n pc hs (walk n pc hs)
unfolding walk reading counted first_refused
spanning zero pc hs l = nothing zero pc hs (stops_at pc) refl refl (λ x. refl) (λ z. absurd (z refl))
spanning (suc n) pc [] l = nothing (suc n) pc [] (stops_at pc) refl refl (λ x. refl) (λ z. refl)
spanning (suc n) pc (h ∷ hs) l =
    go (is_long h) refl (spanning n (plus pc 4) (drop 1 hs) (halfwords_drop h hs l)) (spanning n (plus pc 2) hs (halfwords_tail h hs l))
  where
    go : (t : Bool) → is_long h ≡ t → Spanning n (plus pc 4) (drop 1 hs) (walk n (plus pc 4) (drop 1 hs))
        → Spanning n (plus pc 2) hs (walk n (plus pc 2) hs)
        → Spanning (suc n) pc (h ∷ hs) (walk (suc n) pc (h ∷ hs))
    go true e a b = rw (long_is h ∙ e, walk) (word n pc h hs _ l e a)
    go false e a b = rw (long_is h ∙ e, walk) (rw (expand_is h) (halfword n pc h hs _ e b))
