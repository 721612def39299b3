mod Yes
