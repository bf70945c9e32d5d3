use Rattle.rate_windows.proofs.Windows.{any-window-of-policies}
use Rattle.rate_windows.proofs.laws.policies_grant_in_any_window.Goals as goal

pub returns : goal.returns
returns c = any-window-of-policies
