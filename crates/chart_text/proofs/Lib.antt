mod Walk
