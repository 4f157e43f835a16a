-- What a survey of a log finds.
use Rattle.std.proofs.Common.{refl, sym, ◌∙◌, ap, subst, arith, inl, inr, ⊎_elim}
use Rattle.std.specs.Prelude.{◌≡◌, ◌≢◌, ◌⊎◌, ℕ, ◌+◌, ◌<◌, ◌≤◌, Bool, true, false, List, [], length, Option, None, Some, MatchOption}
use Rattle.std.specs.Option.{is_some}
use Rattle.std.proofs.lemmas.Bool.{cases_eq, cases_lt}
use Rattle.journal_model.specs.declared.number.Area.TheVariants.{Log}
use Rattle.journal_model.specs.declared.refusal.JournalError.{JournalError}
use Rattle.journal_model.specs.declared.refusal.JournalError.TheVariants.{Damage, SequenceEnd}
use Rattle.journal_model.specs.Disk.{Disk, Image, reading}
use Rattle.journal_model.specs.Layout.{begins_with_magic, sequence_in}
use Rattle.log_model.specs.declared.log.Text.{Text}
use Rattle.log_model.specs.Chain.{IsAhead}
use Rattle.log_model.specs.Opening.{ring_of}
use Rattle.log_model.specs.Superblock.{Super}
use Rattle.block_device.specs.State.{DeviceState, Stays}
use Rattle.log_scan.specs.declared.scanning.ChainEnd.{ChainEnd}
use Rattle.log_scan.specs.Finding.{IsSequenceOf, log_block}
use Rattle.log_scan.specs.Scanning.{AreTextsOf, IsDamageOf}
use Rattle.recovery.specs.Opening.{HasTransactions, IsLowestAhead, IsRefusedLog, IsTested, NoneAhead}
use Rattle.recovery.specs.Opening.IsRefusedLog.{ForAhead, ForDamage}
use Rattle.damaged_logs.specs.Before.{IsGreatest}
use Rattle.damaged_logs.specs.BeforeSteps.{HasEnd, HoldsTexts, IsSurveyed, refusal_of}

-- the greatest number in use among the blocks before a place
pub record IsGreatestUpTo (s : Super) (image : Image) (limit place greatest : ℕ) : Type 0 where
  pub none : (other : ℕ) → other < place → IsAhead (ring_of s) image greatest other → ⊥
  pub used : (greatest ≡ limit) ⊎ ((at : ℕ) × IsAhead (ring_of s) image limit at × (greatest ≡ sequence_in (image Log at)))

-- no block is below the ring
pub up-to-none : (s : Super) (image : Image) (limit place : ℕ) → place ≤ s.s_first → IsGreatestUpTo s image limit place limit
up-to-none s image limit place below = record {
  none = λ other before ahead. let low : (ring_of s).first ≤ other = ahead.low in absurd (omega arith);
  used = inl refl;
}

-- a block ahead of a number is ahead of a lesser one
ahead-less : (s : Super) (image : Image) (less limit place : ℕ) → less ≤ limit → IsAhead (ring_of s) image limit place → IsAhead (ring_of s) image less place
ahead-less s image less limit place below ahead =
    record { low = ahead.low; high = ahead.high; magic = ahead.magic; above = let above = ahead.above in omega arith }

-- one more block is read
pub up-to-more : (s : Super) (image : Image) (limit place greatest more : ℕ) (found : Option ℕ) → s.s_first ≤ place → place < (ring_of s).first + (ring_of s).blocks →
    limit ≤ greatest → greatest ≤ more → IsSequenceOf (log_block image place) found →
    MatchOption found (more ≡ greatest) (λ n. (n ≤ more) × ((more ≡ greatest) ⊎ (more ≡ n))) → IsGreatestUpTo s image limit place greatest →
    IsGreatestUpTo s image limit (place + 1) more
up-to-more s image limit place greatest more None low high least over is same so = record {
  none = λ other before ahead.
      elim (cases_eq other place) [
        | inl here ↦ let magic : begins_with_magic (image Log place) ≡ true = ap (λ (n : ℕ). begins_with_magic (image Log n)) (sym here) ∙ ahead.magic in cc
        | inr there ↦ so.none other (omega arith) (ahead-less s image greatest more other (omega arith) ahead)
      ];
  used = ⊎_elim (λ end. inl (same ∙ end)) (λ block. inr (block.0, block.1, same ∙ block.2)) so.used;
}
up-to-more s image limit place greatest more (Some n) low high least over is at so = record {
  none = λ other before ahead.
      elim (cases_eq other place) [
        | inl here ↦
            let above : more < sequence_in (image Log other) = ahead.above in
            let same : sequence_in (image Log other) ≡ n = ap (λ (k : ℕ). sequence_in (image Log k)) here ∙ sym is.1 in
            let under = at.0 in
            absurd (omega arith)
        | inr there ↦ so.none other (omega arith) (ahead-less s image greatest more other (omega arith) ahead)
      ];
  used = elim at.1 [
    | inl same ↦ ⊎_elim (λ end. inl (same ∙ end)) (λ block. inr (block.0, block.1, same ∙ block.2)) so.used
    | inr it ↦
        elim (cases_lt limit n) [
          | inl above ↦
              inr (place, record { low = low; high = high; magic = is.0; above = let same : n ≡ sequence_in (image Log place) = is.1 in omega arith }, it ∙ is.1)
          | inr below ↦ inl (omega arith)
        ]
  ];
}

-- all blocks are read
pub up-to-all : (s : Super) (image : Image) (limit greatest : ℕ) → limit ≤ greatest → IsGreatestUpTo s image limit ((ring_of s).first + (ring_of s).blocks) greatest →
    IsGreatest s image limit greatest
up-to-all s image limit greatest least so = record {
  not_below = least;
  none_ahead = λ place ahead. so.none place ahead.high ahead;
  used = so.used;
}

-- if no block is ahead, the limit is the greatest number
pub limit-greatest : (s : Super) (image : Image) (limit : ℕ) → NoneAhead s image limit → IsGreatest s image limit limit
limit-greatest s image limit none = record { not_below = omega arith; none_ahead = none; used = inl refl }

module _ (s : Super) (count : ℕ) (image : Image) (end : ChainEnd) (has : HasEnd s count image end) where
  -- the texts that a log holds
  holds-texts : (texts : List Text) × HoldsTexts s count image texts × (end.transactions ≡ length texts)
  holds-texts =
      elim (cases_eq s.s_start 0) [
        | inl clean ↦ ([], record { clean = λ also. refl; started = λ other. absurd (other clean) }, ap (λ (e : ChainEnd). e.transactions) (has.clean clean))
        | inr started ↦
            let ends = has.started started in
            (ends.texts, record { clean = λ clean. absurd (started clean); started = λ other. ends.chain }, ends.number)
      ]

  -- they are complete if no block is damaged
  pub end-transactions : end.damaged ≡ None → HasTransactions s count image end.transactions
  end-transactions none = record {
    clean = λ clean. ap (λ (e : ChainEnd). e.transactions) (has.clean clean);
    scanned = λ started.
        let ends = has.started started in
        record { texts = ends.texts; are = rw none at ends.behind; number = ends.number };
  }

  -- a damaged block is one of a log that is not clean
  damaged-started : (place : ℕ) → end.damaged ≡ Some place → s.s_start ≢ 0
  damaged-started place is clean = let none = ap (λ (e : ChainEnd). e.damaged) (has.clean clean) in cc

  -- the tests refuse it for this, or do not
  stopped-by : (ahead : Option ℕ) → MatchOption ahead (NoneAhead s image (s.s_sequence + end.transactions)) (IsLowestAhead s image (s.s_sequence + end.transactions)) →
      (damaged : Option ℕ) → end.damaged ≡ damaged →
      MatchOption (refusal_of damaged ahead) (IsTested s count image end.transactions) (λ e. (e ≢ SequenceEnd) × IsRefusedLog s count image e)
  stopped-by ahead found (Some place) is =
      let ends = has.started (damaged-started place is) in
      let behind = subst (λ (d : Option ℕ). MatchOption d (AreTextsOf s count image ends.texts) (λ p. IsDamageOf s count image (Damage p))) is ends.behind in
      ((λ e. cc), ForDamage (Damage place) (damaged-started place is) behind)
  stopped-by (Some place) found None is = ((λ e. cc), ForAhead end.transactions place (end-transactions is) found)
  stopped-by None found None is = record { has = end-transactions is; none_ahead = found }

  -- what the log holds
  pub surveyed : (ahead : Option ℕ) (greatest : ℕ) →
      MatchOption ahead (NoneAhead s image (s.s_sequence + end.transactions)) (IsLowestAhead s image (s.s_sequence + end.transactions)) →
      IsGreatest s image (s.s_sequence + end.transactions) greatest → IsSurveyed s count image end.transactions greatest (refusal_of end.damaged ahead)
  surveyed ahead greatest found is = record {
    texts = holds-texts.0;
    holds = holds-texts.1;
    number = holds-texts.2;
    greatest_is = is;
    stopped_is = stopped-by ahead found end.damaged refl;
  }

-- an option that is not some is none
not-some : (o : Option ℕ) → is_some o ≡ false → o ≡ None
not-some None isnt = refl
not-some (Some n) isnt = cc

-- a device that stays while its log is surveyed
module _ (s : Super) (old t u : DeviceState) (end : ChainEnd) (ahead : Option ℕ) (limit : ℕ) (has : HasEnd s old.shape.home_blocks (reading old.disk) end) (first : Stays old t) (second : Stays t u)
    (limit_is : limit ≡ s.s_sequence + end.transactions) (found : MatchOption ahead (NoneAhead s (reading t.disk) limit) (IsLowestAhead s (reading t.disk) limit))
  where
    -- which block is ahead
    ahead-there : MatchOption ahead (NoneAhead s (reading old.disk) (s.s_sequence + end.transactions)) (IsLowestAhead s (reading old.disk) (s.s_sequence + end.transactions))
    ahead-there =
        subst (λ (n : ℕ). MatchOption ahead (NoneAhead s (reading old.disk) n) (IsLowestAhead s (reading old.disk) n)) limit_is
        (subst (λ (d : Disk). MatchOption ahead (NoneAhead s (reading d) limit) (IsLowestAhead s (reading d) limit)) first.disk found)

    -- the greatest number is that of the ring
    pub surveyed-ring : (greatest : ℕ) → IsGreatest s (reading u.disk) limit greatest → (refused : Option JournalError) → refused ≡ refusal_of end.damaged ahead →
        IsSurveyed s old.shape.home_blocks (reading old.disk) end.transactions greatest refused
    surveyed-ring greatest is refused same =
        subst (λ (e : Option JournalError). IsSurveyed s old.shape.home_blocks (reading old.disk) end.transactions greatest e) (sym same)
        (surveyed s old.shape.home_blocks (reading old.disk) end has ahead greatest ahead-there
        (subst (λ (n : ℕ). IsGreatest s (reading old.disk) n greatest) limit_is
        (subst (λ (d : Disk). IsGreatest s (reading d) limit greatest) (second.disk ∙ first.disk) is)))

    -- if no block is ahead, it is the limit
    pub surveyed-limit : (some : Bool) → some ≡ is_some ahead → some ≡ false → (refused : Option JournalError) → refused ≡ refusal_of end.damaged ahead →
        IsSurveyed s old.shape.home_blocks (reading old.disk) end.transactions limit refused
    surveyed-limit some is isnt refused same =
        let none = not-some ahead (sym is ∙ isnt) in
        let all : NoneAhead s (reading t.disk) limit = subst (λ (o : Option ℕ). MatchOption o (NoneAhead s (reading t.disk) limit) (IsLowestAhead s (reading t.disk) limit)) none found in
        surveyed-ring limit (subst (λ (d : Disk). IsGreatest s (reading d) limit limit) (sym second.disk) (limit-greatest s (reading t.disk) limit all)) refused same
