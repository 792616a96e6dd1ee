use Rattle.std.proofs.Common.{rules, string_bytes}
use Rattle.words.proofs.Elements.{cut_list}
use Rattle.words.proofs.Keeping.{keep_behind, keep_not_first}
use Rattle.words.proofs.keep.+has_keep.Goals as goal

pub returns-else-names_keep : goal.returns-else-names_keep
returns-else-names_keep t c =
    let e = cut_list string_bytes c.args.further.now c.word-item.result c.as_str.result.now c.in-len1-up.len_at_least c.word-item.is c.as_str.ensures.value in (
      λ h. keep_behind _ _ c.as_str.result.now e (c.has_keep.ensures.0 h),
      λ h. c.has_keep.ensures.1 (keep_not_first _ _ c.as_str.result.now e (λ n. let f = c.names_keep.ensures.1 n in search (rules, f)) h),
    )
