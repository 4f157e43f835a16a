use Rattle.std.proofs.Common.{◌∙◌, ap, sym}
use Rattle.std.proofs.lemmas.Bool.{eqb-true}
use Rattle.log_model.specs.Superblock.{Super, wide_features}
use Rattle.recovery.specs.Upgrade.IsKeptNarrow.{ForContent, ForWide}
use Rattle.recovery.proofs.Upgrades.{other-features}
use Rattle.recovery.proofs.upgrading.may_be_upgraded.Goals as goal

pub returns-then-has_wide_numbers-clause-err : goal.returns-then-has_wide_numbers-clause-err
returns-then-has_wide_numbers-clause-err c =
    ForWide (eqb-true c.args.fields.now.s_feature_incompat wide_features (sym c.has_wide_numbers.ensures ∙ c.if-has_wide_numbers.true))

pub returns-then-fields-ne0-clause-err : goal.returns-then-fields-ne0-clause-err
returns-then-fields-ne0-clause-err c =
    ForContent (other-features c.args.fields.now c.has_wide_numbers.result c.has_wide_numbers.ensures c.if-has_wide_numbers.false)
    (λ clean. c.if-fields-ne0.true (ap (λ (s : Super). s.s_start) c.fields.view_is ∙ clean))
